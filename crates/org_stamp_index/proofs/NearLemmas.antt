-- The near stamps of entries, counted and found by their ids.
use Rattle.std.proofs.Common.{◌≡◌, ◌∙◌, ℕ, suc, ◌+◌, ◌-◌, ◌<◌, ◌≤◌, Bool, true, false, ◌&&◌, ◌||◌, cond, List, [], ◌∷◌, length, get_or, inl, inr, sym, ap, ap₂, refl, subst, arith}
use Rattle.std.specs.Prelude.{Some, Contains, filter, nat_le, nat_lt, not, slice_get}
use Rattle.std.specs.List.{sum_by}
use Rattle.std.specs.Map.{keys_of}
use Rattle.std.proofs.lemmas.Bool.{cases_Bool}
use Rattle.std.proofs.lemmas.Bool.Decides.{nat_tests}
use Rattle.std.proofs.lemmas.List.Sums.{sum_by-cons, sum_by-append}
use Rattle.org_base.specs.declared.profile.Profile.{Profile}
use Rattle.org_entry.specs.declared.entry.Entry.{Entry}
use Rattle.org_index.specs.Reaches.{reach_of}
use Rattle.org_index.specs.Near.{candidate_count, candidate_ids, meets, touches, touching_count, touching_ids, warns}
use Rattle.org_index.specs.declared.reach.Reach.{Reach}
use Rattle.org_settings.specs.Settings.{FileSettings}
use Rattle.org_entry.specs.Active.{active_stamps}
use Rattle.org_stamp_index.specs.NearQuery.{is_reminding}
use Rattle.org_entry.specs.declared.active.EntryStamp.{EntryStamp}
use Rattle.org_stamp_index.specs.NearQuery.{asked_of, is_asked}
use Rattle.org_stamp_index.specs.Index.{AreHeadingsOf, AreHoused, HaveSame, IsIndexOf, all_ids, ids_of, is_waiting}
use Rattle.org_stamp_index.specs.Near.{AddHeadings, HasPlace, HoldNear, HoldNearOf, KeepPlaces, near_in, near_of_entry}
use Rattle.org_stamp_index.specs.declared.near_query.NearQuery.{NearQuery}
use Rattle.org_stamp_index.specs.declared.index.StampIndex.{StampIndex}
use Rattle.org_stamp_index.proofs.HeadingIdLemmas.{housed_at, housed_long, sum_at}

-- one for what passes
abbrev pub one_if : (Reach → Bool) → ℕ × Reach → ℕ
one_if m p = cond (m p.1) 1 0

one_more : (b : Bool) (p : ℕ × Reach) (ps : List (ℕ × Reach)) → length (keys_of (cond b (p ∷ ps) ps)) ≡ cond b 1 0 + length (keys_of ps)
one_more true p ps = omega arith
one_more false p ps = omega arith

-- as many ids as items pass
pub ids_counted : (m : Reach → Bool) (ps : List (ℕ × Reach)) → length (keys_of (filter (λ (p : ℕ × Reach). m p.1) ps)) ≡ sum_by (one_if m) ps
ids_counted m [] = refl
ids_counted m (p ∷ ps) =
    one_more (m p.1) p (filter (λ (p : ℕ × Reach). m p.1) ps) ∙ ap (λ n. cond (m p.1) 1 0 + n) (ids_counted m ps) ∙ sym (sum_by-cons (one_if m) p ps)

one_longer : (b : Bool) (s : EntryStamp) (ss : List EntryStamp) → length (cond b (s ∷ ss) ss) ≡ cond b 1 0 + length ss
one_longer true s ss = omega arith
one_longer false s ss = omega arith

or_false : (b : Bool) → (b || false) ≡ b
or_false true = refl
or_false false = refl

module _ (a : NearQuery) where
  abbrev q : Profile
  q = a.profile

  -- an extent meets the days, or touches them
  abbrev pub meets_days : Reach → Bool
  meets_days e = meets a.from a.to a.today e

  abbrev pub touches_days : Reach → Bool
  touches_days e = touches a.from a.to e

  presses_near : (s : EntryStamp) → is_reminding s ≡ true → is_asked a s ≡ meets_days (reach_of q s.stamp)
  presses_near s presses = ap (λ b. touches a.from a.to (reach_of q s.stamp) || (b && warns a.from a.to a.today (reach_of q s.stamp))) presses

  waits_near : (s : EntryStamp) → is_reminding s ≡ false → is_asked a s ≡ touches_days (reach_of q s.stamp)
  waits_near s waits = ap (λ b. touches a.from a.to (reach_of q s.stamp) || (b && warns a.from a.to a.today (reach_of q s.stamp))) waits ∙ or_false (touches a.from a.to (reach_of q s.stamp))

  -- of some stamps as many are near as meet the days and press, or touch them and don't
  pub stamps_counted : (id : ℕ) (ss : List EntryStamp) → sum_by (one_if meets_days) (ids_of q is_reminding id ss) + sum_by (one_if touches_days) (ids_of q is_waiting id ss) ≡ length (asked_of a ss)
  stamps_counted id [] = refl
  stamps_counted id (s ∷ ss) =
      let more = stamps_counted (id + 1) ss in
      let e = reach_of q s.stamp in
      let longer = one_longer (is_asked a s) s (asked_of a ss) in
      elim (cases_Bool (is_reminding s)) [
        | inl presses ↦
            let waits : is_waiting s ≡ false = ap not presses in
            let near : cond (is_asked a s) 1 0 ≡ one_if meets_days (id, e) = ap (λ b. cond b 1 0) (presses_near s presses) in
            let one : sum_by (one_if meets_days) (ids_of q is_reminding id (s ∷ ss)) ≡ one_if meets_days (id, e) + sum_by (one_if meets_days) (ids_of q is_reminding (id + 1) ss) = rw presses (sum_by-cons (one_if meets_days) (id, e) (ids_of q is_reminding (id + 1) ss)) in
            let none : sum_by (one_if touches_days) (ids_of q is_waiting id (s ∷ ss)) ≡ sum_by (one_if touches_days) (ids_of q is_waiting (id + 1) ss) = rw waits refl in
            omega (arith, more, longer, near, one, none)
        | inr rests ↦
            let waits : is_waiting s ≡ true = ap not rests in
            let near : cond (is_asked a s) 1 0 ≡ one_if touches_days (id, e) = ap (λ b. cond b 1 0) (waits_near s rests) in
            let none : sum_by (one_if meets_days) (ids_of q is_reminding id (s ∷ ss)) ≡ sum_by (one_if meets_days) (ids_of q is_reminding (id + 1) ss) = rw rests refl in
            let one : sum_by (one_if touches_days) (ids_of q is_waiting id (s ∷ ss)) ≡ one_if touches_days (id, e) + sum_by (one_if touches_days) (ids_of q is_waiting (id + 1) ss) = rw waits (sum_by-cons (one_if touches_days) (id, e) (ids_of q is_waiting (id + 1) ss)) in
            omega (arith, more, longer, near, one, none)
      ]

  module _ (settings : FileSettings) where
    -- the same of entries
    entries_counted : (fs : List ℕ) (es : List Entry) → length fs ≡ length es →
        sum_by (one_if meets_days) (all_ids q is_reminding settings fs es) + sum_by (one_if touches_days) (all_ids q is_waiting settings fs es) ≡ near_in a settings es
    entries_counted [] [] long = refl
    entries_counted [] (e ∷ es) long = absurd (omega (arith, long))
    entries_counted (f ∷ fs) [] long = absurd (omega (arith, long))
    entries_counted (f ∷ fs) (e ∷ es) long =
        let ss = active_stamps settings e in
        let one = sum_by-append (one_if meets_days) (ids_of q is_reminding f ss) (all_ids q is_reminding settings fs es) in
        let two = sum_by-append (one_if touches_days) (ids_of q is_waiting f ss) (all_ids q is_waiting settings fs es) in
        let own = stamps_counted f ss in
        let more = entries_counted fs es (omega (arith, long)) in
        omega (arith, one, two, own, more, sum_by-cons (near_of_entry a settings) e es)

    -- the two indexes have as many candidates as stamps are near
    pub near_counted : (es : List Entry) (x : StampIndex) → x.profile ≡ q → IsIndexOf settings es x →
        candidate_count a.from a.to a.today x.reminding + touching_count a.from a.to x.plain ≡ near_in a settings es
    near_counted es x same is =
        let long = housed_long settings x.heading_of.items 0 x.first_id_of.items es is.housed in
        let reminding : sum_by (one_if meets_days) (all_ids q is_reminding settings x.first_id_of.items es) ≡ sum_by (one_if meets_days) x.reminding =
        ap (λ p. sum_by (one_if meets_days) (all_ids p is_reminding settings x.first_id_of.items es)) (sym same) ∙ is.reminding (one_if meets_days) in
        let plain : sum_by (one_if touches_days) (all_ids q is_waiting settings x.first_id_of.items es) ≡ sum_by (one_if touches_days) x.plain =
        ap (λ p. sum_by (one_if touches_days) (all_ids p is_waiting settings x.first_id_of.items es)) (sym same) ∙ is.plain (one_if touches_days) in
        let one : candidate_count a.from a.to a.today x.reminding ≡ sum_by (one_if meets_days) x.reminding = ids_counted meets_days x.reminding in
        let two : touching_count a.from a.to x.plain ≡ sum_by (one_if touches_days) x.plain = ids_counted touches_days x.plain in
        omega (arith, reminding, plain, one, two, entries_counted x.first_id_of.items es long)

-- an id is one of so many from a first one on
abbrev lies : ℕ → ℕ → ℕ → Bool
lies first count id = nat_le first id && nat_lt id (first + count)

-- the weight of what passes and lies there
abbrev passing : (Reach → Bool) → ℕ → ℕ → ℕ × Reach → ℕ
passing m first count p = cond (lies first count p.0) (one_if m p) 0

-- where no id that passes lies there, nothing weighs anything
none_passing : (m : Reach → Bool) (first count : ℕ) (ps : List (ℕ × Reach)) → ((id : ℕ) → Contains (keys_of (filter (λ (p : ℕ × Reach). m p.1) ps)) id → lies first count id ≡ true → ⊥) → sum_by (passing m first count) ps ≡ 0
none_passing m first count [] none = refl
none_passing m first count (p ∷ ps) none = elim (cases_Bool (m p.1)) [
  | inl passes ↦
      let keys : keys_of (filter (λ (p : ℕ × Reach). m p.1) (p ∷ ps)) ≡ p.0 ∷ keys_of (filter (λ (p : ℕ × Reach). m p.1) ps) = rw passes refl in
      let rest = none_passing m first count ps (λ id h l. none id (subst (λ (ks : List ℕ). Contains ks id) (sym keys) (suc h.0, omega (arith, h.1), h.2)) l) in
      let zero' : passing m first count p ≡ 0 = elim (cases_Bool (lies first count p.0)) [
        | inl there ↦ absurd (none p.0 (subst (λ (ks : List ℕ). Contains ks p.0) (sym keys) (0, omega arith, refl)) there)
        | inr away ↦ ap (λ b. cond b (one_if m p) 0) away
      ] in
      sum_by-cons (passing m first count) p ps ∙ ap₂ (λ x y. x + y) zero' rest
  | inr fails ↦
      let keys : keys_of (filter (λ (p : ℕ × Reach). m p.1) (p ∷ ps)) ≡ keys_of (filter (λ (p : ℕ × Reach). m p.1) ps) = rw fails refl in
      let rest = none_passing m first count ps (λ id h l. none id (subst (λ (ks : List ℕ). Contains ks id) (sym keys) h) l) in
      let light : one_if m p ≡ 0 = ap (λ b. cond b 1 0) fails in
      let zero' : passing m first count p ≡ 0 = elim (cases_Bool (lies first count p.0)) [
        | inl there ↦ ap (λ b. cond b (one_if m p) 0) there ∙ light
        | inr away ↦ ap (λ b. cond b (one_if m p) 0) away
      ] in
      sum_by-cons (passing m first count) p ps ∙ ap₂ (λ x y. x + y) zero' rest
]

-- all ids of a place lie there
own_pass : (q : Profile) (wanted : EntryStamp → Bool) (m : Reach → Bool) (first count id : ℕ) (ss : List EntryStamp) → first ≤ id → id + length ss ≤ first + count → sum_by (passing m first count) (ids_of q wanted id ss) ≡ sum_by (one_if m) (ids_of q wanted id ss)
own_pass q wanted m first count id [] low high = refl
own_pass q wanted m first count id (s ∷ ss) low high =
    let more = own_pass q wanted m first count (id + 1) ss (omega (arith, low)) (omega (arith, high)) in
    let after : suc id ≤ first + count = omega (arith, high) in
    let here : lies first count id ≡ true = grind (arith, nat_tests, low, after) in
    let same : passing m first count (id, reach_of q s.stamp) ≡ one_if m (id, reach_of q s.stamp) = ap (λ b. cond b (one_if m (id, reach_of q s.stamp)) 0) here in
    elim (cases_Bool (wanted s)) [
      | inl yes' ↦ rw yes' (
          sum_by-cons (passing m first count) (id, reach_of q s.stamp) (ids_of q wanted (id + 1) ss) ∙ ap₂ (λ x y. x + y) same more ∙ sym (sum_by-cons (one_if m) (id, reach_of q s.stamp) (ids_of q wanted (id + 1) ss))
          )
      | inr no' ↦ rw no' more
    ]

heading_there : (heading_of : List ℕ) (first count place id : ℕ) → AreHeadingsOf heading_of first count place → lies first count id ≡ true → slice_get heading_of id ≡ Some place
heading_there heading_of first count place id h l =
    let low : first ≤ id = grind (arith, nat_tests, l) in
    let high : id < first + count = grind (arith, nat_tests, l) in
    ap (slice_get heading_of) (let z : id ≡ first + (id - first) = omega (arith, low) in z) ∙ h.1 (id - first) (omega (arith, low, high))

-- a heading whose place isn't among those of the ids that pass has no stamp that does
no_ids : (q : Profile) (wanted : EntryStamp → Bool) (settings : FileSettings) (m : Reach → Bool) (heading_of fs : List ℕ) (es : List Entry) (index : List (ℕ × Reach)) (places : List ℕ) (i : ℕ) (e : Entry) →
    AreHoused settings heading_of 0 fs es → HaveSame (all_ids q wanted settings fs es) index → AddHeadings heading_of (keys_of (filter (λ (p : ℕ × Reach). m p.1) index)) places → slice_get es i ≡ Some e → (HasPlace places i → ⊥) →
    sum_by (one_if m) (ids_of q wanted (get_or fs i 0) (active_stamps settings e)) ≡ 0
no_ids q wanted settings m heading_of fs es index places i e housed same adds there out =
    let ss = active_stamps settings e in
    let first = get_or fs i 0 in
    let own : AreHeadingsOf heading_of first (length ss) i = subst (AreHeadingsOf heading_of first (length ss)) (let z : 0 + i ≡ i = omega arith in z) (housed_at settings heading_of 0 fs es i e housed there) in
    let none = none_passing m first (length ss) index (λ id h l. out (adds id i h (heading_there heading_of first (length ss) i id own l))) in
    let whole = same (passing m first (length ss)) in
    let split = sum_at settings q wanted (passing m first (length ss)) i fs es e (housed_long settings heading_of 0 fs es housed) there in
    let all = own_pass q wanted m first (length ss) first ss (omega arith) (omega arith) in
    omega (arith, none, whole, split, all)

empty : (ss : List EntryStamp) → length ss ≡ 0 → ss ≡ []
empty [] none = refl
empty (s ∷ ss) none = absurd (omega (arith, none))

pub hold_near : (a : NearQuery) (x : StampIndex) (one two : List ℕ) → x.profile ≡ a.profile → AddHeadings x.heading_of.items (candidate_ids a.from a.to a.today x.reminding) one → KeepPlaces one two → AddHeadings x.heading_of.items (touching_ids a.from a.to x.plain) two →
    (settings : FileSettings) (es : List Entry) → IsIndexOf settings es x → HoldNear a settings es two
hold_near a x one two same first keeps second settings es is i e there out =
    let q = a.profile in
    let ss = active_stamps settings e in
    let f = get_or x.first_id_of.items i 0 in
    let reminding : HaveSame (all_ids q is_reminding settings x.first_id_of.items es) x.reminding = λ w. ap (λ p. sum_by w (all_ids p is_reminding settings x.first_id_of.items es)) (sym same) ∙ is.reminding w in
    let plain : HaveSame (all_ids q is_waiting settings x.first_id_of.items es) x.plain = λ w. ap (λ p. sum_by w (all_ids p is_waiting settings x.first_id_of.items es)) (sym same) ∙ is.plain w in
    let none = no_ids q is_reminding settings (meets_days a) x.heading_of.items x.first_id_of.items es x.reminding one i e is.housed reminding first there (λ has. out (keeps i has)) in
    let neither = no_ids q is_waiting settings (touches_days a) x.heading_of.items x.first_id_of.items es x.plain two i e is.housed plain second there out in
    empty (asked_of a ss) (let all = stamps_counted a f ss in omega (arith, none, neither, all))

-- places that keep those
pub hold_kept : (a : NearQuery) (x : StampIndex) (one two : List ℕ) → HoldNearOf a x one → KeepPlaces one two → HoldNearOf a x two
hold_kept a x one two hold keeps settings es is i e there out = hold settings es is i e there (λ has. out (keeps i has))
