-- Indexes of entries, with others in the place of those in a range.
use Rattle.std.proofs.Common.{◌≡◌, ◌∙◌, ℕ, zero, suc, ◌+◌, ◌-◌, ◌^◌, ◌<◌, ◌≤◌, Bool, List, [], ◌∷◌, ◌++◌, length, map, take, drop, get_or, sym, ap, refl, subst, arith}
use Rattle.std.specs.Prelude.{Some, replicate, slice_get, slice_set}
use Rattle.std.specs.Option.{option_map}
use Rattle.std.specs.List.{between, splice, sum_by}
use Rattle.std.specs.Vec.{with_items}
use Rattle.std.specs.declared.alloc.Global.{Global}
use Rattle.std.specs.declared.vec.Vec.{Vec}
use Rattle.std.proofs.Math.Seq.{drop-append_seam, take-append_seam}
use Rattle.std.proofs.lemmas.List.{drop-drop, length-append, length-drop, length-map, length-take-le, take-append-drop, take_more}
use Rattle.std.proofs.lemmas.List.Sums.{sum_by-append}
use Rattle.std.proofs.lemmas.Option.{slice_get-map}
use Rattle.org_base.specs.declared.profile.Profile.{Profile}
use Rattle.org_entry.specs.declared.entry.Entry.{Entry}
use Rattle.org_index.specs.declared.reach.Reach.{Reach}
use Rattle.org_settings.specs.Settings.{FileSettings}
use Rattle.org_entry.specs.Active.{active_stamps}
use Rattle.org_stamp_index.specs.NearQuery.{is_reminding}
use Rattle.org_entry.specs.declared.active.EntryStamp.{EntryStamp}
use Rattle.org_stamp_index.specs.Index.{AreBelow, AreFresh, AreHeadingsOf, AreHoused, ArePut, AreTaken, HasPut, HasTaken, HaveSame, IsIndexOf, IsReplaced, LeavesRest, Stay, all_ids, behind_in, ids_of, is_waiting, moved}
use Rattle.org_stamp_index.specs.declared.index.StampIndex.{StampIndex}
use Rattle.org_stamp_index.proofs.SumLemmas.{below_behind, below_same}
use Rattle.org_stamp_index.proofs.HeadingIdLemmas.{all_below, get_append, headings_new, housed_long, housed_push, sum_push}

-- a part of a list between two others
pub apart : {X : Type 0} (xs : List X) (s e : ℕ) → s ≤ e → take s xs ++ (between s e xs ++ drop e xs) ≡ xs
apart xs s e order =
    let to : s + (e - s) ≡ e = omega arith in
    ap (λ ys. take s xs ++ (take (e - s) (drop s xs) ++ ys)) (ap (λ n. drop n xs) (sym to) ∙ sym (drop-drop (e - s) s xs))
    ∙ (ap (λ ys. take s xs ++ ys) (take-append-drop (e - s) (drop s xs)) ∙ take-append-drop s xs)

get_drop : {X : Type 0} (xs : List X) (s i : ℕ) (d : X) → s ≤ i → get_or (drop s xs) (i - s) d ≡ get_or xs i d
get_drop [] zero i d le = let e : i - 0 ≡ i = omega arith in ap (λ n. get_or [] n d) e
get_drop [] (suc s) i d le = refl
get_drop (x ∷ xs) zero i d le = let e : i - 0 ≡ i = omega arith in ap (λ n. get_or (x ∷ xs) n d) e
get_drop (x ∷ xs) (suc s) zero d le = absurd (omega (arith, le))
get_drop (x ∷ xs) (suc s) (suc i) d le = let e : suc i - suc s ≡ i - s = omega arith in ap (λ n. get_or (drop s xs) n d) e ∙ get_drop xs s i d (omega (arith, le))

pub between_none : {X : Type 0} (xs : List X) (s : ℕ) → between s s xs ≡ []
between_none xs s = let none : s - s ≡ 0 = omega arith in ap (λ n. take n (drop s xs)) none

pub between_more : {X : Type 0} (xs : List X) (s i : ℕ) (x : X) → s ≤ i → i < length xs → x ≡ get_or xs i x → between s (i + 1) xs ≡ between s i xs ++ x ∷ []
between_more xs s i x le lt at =
    let next : i + 1 - s ≡ i - s + 1 = omega (arith, le) in
    let long = length-drop s xs in
    let within : i - s < length (drop s xs) = omega (arith, long, le, lt) in
    ap (λ n. take n (drop s xs)) next ∙ take_more (drop s xs) (i - s) x within ∙ ap (λ y. between s i xs ++ y ∷ []) (get_drop xs s i x le ∙ sym at)

-- an item that is there doesn't depend on what is answered where none is
pub get_same : (xs : List ℕ) (i : ℕ) → i < length xs → get_or xs i 0 ≡ get_or xs i (get_or xs i 0)
get_same [] i lt = absurd (omega (arith, lt))
get_same (x ∷ xs) zero lt = refl
get_same (x ∷ xs) (suc i) lt = get_same xs i (omega (arith, lt))

pub between_long : {X : Type 0} (xs : List X) (s e : ℕ) → s ≤ e → e ≤ length xs → length (between s e xs) ≡ e - s
between_long xs s e order within = let long = length-drop s xs in length-take-le (e - s) (drop s xs) (omega (arith, long, order, within))

-- one item more of those that were gone over
pub next_there : (f : ℕ → ℕ) (xs : List ℕ) (i d : ℕ) → i < length xs → get_or (map f (take i xs) ++ drop i xs) i d ≡ get_or xs i d
next_there f [] i d lt = absurd (omega (arith, lt))
next_there f (x ∷ xs) zero d lt = refl
next_there f (x ∷ xs) (suc i) d lt = next_there f xs i d (omega (arith, lt))

pub next_mapped : (f : ℕ → ℕ) (xs : List ℕ) (i d : ℕ) → i < length xs → slice_set (map f (take i xs) ++ drop i xs) i (f (get_or xs i d)) ≡ map f (take (i + 1) xs) ++ drop (i + 1) xs
next_mapped f [] i d lt = absurd (omega (arith, lt))
next_mapped f (x ∷ xs) zero d lt = refl
next_mapped f (x ∷ xs) (suc i) d lt =
    let next : suc i + 1 ≡ suc (i + 1) = omega arith in
    ap (λ ys. f x ∷ ys) (next_mapped f xs i d (omega (arith, lt))) ∙ ap (λ n. map f (take n (x ∷ xs)) ++ drop n (x ∷ xs)) (sym next)

-- all items of a list written anew
pub rewritten : (v : Vec ℕ Global) (ws : List ℕ) → length ws ≡ length v.items → (with_items v ws).items ≡ ws
rewritten v ws many =
    let count : v.len ≡ length ws = omega (arith, many, v.ok.0) in
    ap (λ n. take n (ws ++ drop (length ws) v.items)) count ∙ take-append_seam ws (drop (length ws) v.items)

-- ids lead to other places, so many of which count up from one, as they led to those from another one
pub record Leads (old new : List ℕ) (from to count : ℕ) : Type 0 where
  pub long : length old ≤ length new
  pub same : (id j : ℕ) → j < count → slice_get old id ≡ Some (from + j) → slice_get new id ≡ Some (to + j)

leads_on : (a b c : List ℕ) (from to count : ℕ) → Leads a b from to count → Stay b c → Leads a c from to count
leads_on a b c from to count l stay = record { long = omega (arith, l.long, stay.long); same = λ id j lt there. stay.same id (to + j) (l.same id j lt there) }

-- what stands before the end stays
leads_before : (heading_of : List ℕ) (end behind count : ℕ) → count ≤ end → Leads heading_of (map (moved end behind) heading_of) 0 0 count
leads_before heading_of end behind count le = record {
  long = let l = length-map heading_of (moved end behind) in omega (arith, l);
  same = λ id j lt there. slice_get-map (moved end behind) heading_of id ∙ ap (option_map (moved end behind)) there ∙ ap Some (let w : moved end behind (0 + j) ≡ 0 + j = grind (arith, lt, le) in w);
}

-- and what stands after it moves
leads_behind : (heading_of : List ℕ) (end behind count : ℕ) → behind + count ≤ 2 ^ 64 - 1 → Leads heading_of (map (moved end behind) heading_of) end behind count
leads_behind heading_of end behind count le = record {
  long = let l = length-map heading_of (moved end behind) in omega (arith, l);
  same = λ id j lt there. slice_get-map (moved end behind) heading_of id ∙ ap (option_map (moved end behind)) there ∙ ap Some (let w : moved end behind (end + j) ≡ behind + j = grind (arith, lt, le) in w);
}

module _ (by : FileSettings) where
  housed_led : (old new : List ℕ) (i k : ℕ) (fs : List ℕ) (es : List Entry) → Leads old new i k (length es) → AreHoused by old i fs es → AreHoused by new k fs es
  housed_led old new i k [] [] l h = tt
  housed_led old new i k [] (e ∷ es) l h = absurd h
  housed_led old new i k (f ∷ fs) [] l h = absurd h
  housed_led old new i k (f ∷ fs) (e ∷ es) l h =
      let here : i + 0 ≡ i = omega arith in
      let there : k + 0 ≡ k = omega arith in
      let own : AreHeadingsOf new f (length (active_stamps by e)) k =
      (omega (arith, h.0.0, l.long), λ j lt. l.same (f + j) 0 (omega arith) (h.0.1 j lt ∙ ap Some (sym here)) ∙ ap Some there) in
      let rest : Leads old new (i + 1) (k + 1) (length es) =
      record {
        long = l.long;
        same = λ id j lt at. l.same id (suc j) (omega (arith, lt)) (at ∙ ap Some (let w : i + 1 + j ≡ i + suc j = omega arith in w)) ∙ ap Some (let w : k + suc j ≡ k + 1 + j = omega arith in w);
      } in
      (own, housed_led old new (i + 1) (k + 1) fs es rest h.1)

  housed_append : (heading_of : List ℕ) (i : ℕ) (fs gs : List ℕ) (es ds : List Entry) → AreHoused by heading_of i fs es → AreHoused by heading_of (i + length es) gs ds → AreHoused by heading_of i (fs ++ gs) (es ++ ds)
  housed_append heading_of i [] gs [] ds h more = subst (λ n. AreHoused by heading_of n gs ds) (let w : i + 0 ≡ i = omega arith in w) more
  housed_append heading_of i [] gs (e ∷ es) ds h more = absurd h
  housed_append heading_of i (f ∷ fs) gs [] ds h more = absurd h
  housed_append heading_of i (f ∷ fs) gs (e ∷ es) ds h more =
      (h.0, housed_append heading_of (i + 1) fs gs es ds h.1 (subst (λ n. AreHoused by heading_of n gs ds) (let w : i + suc (length es) ≡ i + 1 + length es = omega arith in w) more))

  housed_take : (heading_of : List ℕ) (i n : ℕ) (fs : List ℕ) (es : List Entry) → AreHoused by heading_of i fs es → AreHoused by heading_of i (take n fs) (take n es)
  housed_take heading_of i zero fs es h = tt
  housed_take heading_of i (suc n) [] [] h = tt
  housed_take heading_of i (suc n) [] (e ∷ es) h = absurd h
  housed_take heading_of i (suc n) (f ∷ fs) [] h = absurd h
  housed_take heading_of i (suc n) (f ∷ fs) (e ∷ es) h = (h.0, housed_take heading_of (i + 1) n fs es h.1)

  housed_drop : (heading_of : List ℕ) (i n : ℕ) (fs : List ℕ) (es : List Entry) → AreHoused by heading_of i fs es → AreHoused by heading_of (i + n) (drop n fs) (drop n es)
  housed_drop heading_of i zero fs es h = subst (λ m. AreHoused by heading_of m fs es) (let w : i ≡ i + 0 = omega arith in w) h
  housed_drop heading_of i (suc n) [] [] h = tt
  housed_drop heading_of i (suc n) [] (e ∷ es) h = absurd h
  housed_drop heading_of i (suc n) (f ∷ fs) [] h = absurd h
  housed_drop heading_of i (suc n) (f ∷ fs) (e ∷ es) h = subst (λ m. AreHoused by heading_of m (drop n fs) (drop n es)) (let w : i + 1 + n ≡ i + suc n = omega arith in w) (housed_drop heading_of (i + 1) n fs es h.1)

  module _ (q : Profile) (wanted : EntryStamp → Bool) where
    sum_all_append : (weight : ℕ × Reach → ℕ) (fs gs : List ℕ) (es ds : List Entry) → length fs ≡ length es →
        sum_by weight (all_ids q wanted by (fs ++ gs) (es ++ ds)) ≡ sum_by weight (all_ids q wanted by fs es) + sum_by weight (all_ids q wanted by gs ds)
    sum_all_append weight [] gs [] ds long = omega arith
    sum_all_append weight [] gs (e ∷ es) ds long = absurd (omega (arith, long))
    sum_all_append weight (f ∷ fs) gs [] ds long = absurd (omega (arith, long))
    sum_all_append weight (f ∷ fs) gs (e ∷ es) ds long =
        let one = sum_by-append weight (ids_of q wanted f (active_stamps by e)) (all_ids q wanted by (fs ++ gs) (es ++ ds)) in
        let two = sum_by-append weight (ids_of q wanted f (active_stamps by e)) (all_ids q wanted by fs es) in
        omega (arith, one, two, sum_all_append weight fs gs es ds (omega (arith, long)))

    -- the ids of all entries but those in a range
    abbrev around : ℕ → ℕ → List ℕ → List Entry → List (ℕ × Reach)
    around s e fs es = all_ids q wanted by (take s fs) (take s es) ++ all_ids q wanted by (drop e fs) (drop e es)

    -- with others in the range
    sum_spliced : (weight : ℕ × Reach → ℕ) (s e : ℕ) (fs ns : List ℕ) (es ds : List Entry) → length fs ≡ length es → length ns ≡ length ds → s ≤ length es →
        sum_by weight (all_ids q wanted by (splice fs s e ns) (splice es s e ds)) ≡ sum_by weight (all_ids q wanted by ns ds) + sum_by weight (around s e fs es)
    sum_spliced weight s e fs ns es ds long new within =
        let first : length (take s fs) ≡ length (take s es) = length-take-le s fs (omega (arith, long, within)) ∙ sym (length-take-le s es within) in
        let one = sum_all_append weight (take s fs) (ns ++ drop e fs) (take s es) (ds ++ drop e es) first in
        let two = sum_all_append weight ns (drop e fs) ds (drop e es) new in
        let three = sum_by-append weight (all_ids q wanted by (take s fs) (take s es)) (all_ids q wanted by (drop e fs) (drop e es)) in
        omega (arith, one, two, three)

    -- those in the range, and the others
    same_apart : (s e : ℕ) (fs : List ℕ) (es : List Entry) → length fs ≡ length es → s ≤ e → e ≤ length es →
        HaveSame (all_ids q wanted by (between s e fs) (between s e es) ++ around s e fs es) (all_ids q wanted by fs es)
    same_apart s e fs es long order within weight =
        let counts : length (between s e fs) ≡ length (between s e es) = between_long fs s e order (omega (arith, long, within)) ∙ sym (between_long es s e order within) in
        let whole = sum_by-append weight (all_ids q wanted by (between s e fs) (between s e es)) (around s e fs es) in
        let parts = sum_spliced weight s e fs (between s e fs) es (between s e es) long counts (omega (arith, order, within)) in
        whole ∙ sym parts ∙ (λ i. sum_by weight (all_ids q wanted by (apart fs s e order i) (apart es s e order i)))

    -- what is left when those in the range are taken out
    left_around : (s e : ℕ) (fs : List ℕ) (es : List Entry) (old mid : List (ℕ × Reach)) → length fs ≡ length es → s ≤ e → e ≤ length es → HaveSame (all_ids q wanted by fs es) old →
        LeavesRest (all_ids q wanted by (between s e fs) (between s e es)) old mid → HaveSame (around s e fs es) mid
    left_around s e fs es old mid long order within had taken = taken (around s e fs es) (λ w. same_apart s e fs es long order within w ∙ had w)

    left_below : (n s e : ℕ) (fs : List ℕ) (es : List Entry) (old mid : List (ℕ × Reach)) → length fs ≡ length es → s ≤ e → e ≤ length es → HaveSame (all_ids q wanted by fs es) old →
        LeavesRest (all_ids q wanted by (between s e fs) (between s e es)) old mid → AreBelow n (all_ids q wanted by fs es) → AreBelow n mid
    left_below n s e fs es old mid long order within had taken below =
        let retired = all_ids q wanted by (between s e fs) (between s e es) in
        let split : HaveSame (all_ids q wanted by fs es) (retired ++ around s e fs es) = λ w. sym (same_apart s e fs es long order within w) in
        below_same n (around s e fs es) mid (left_around s e fs es old mid long order within had taken) (below_behind n retired (around s e fs es) (below_same n (all_ids q wanted by fs es) (retired ++ around s e fs es) split below))

    -- with others there
    same_spliced : (s e : ℕ) (fs ns : List ℕ) (es ds : List Entry) (old mid new : List (ℕ × Reach)) → length fs ≡ length es → length ns ≡ length ds → s ≤ e → e ≤ length es → HaveSame (all_ids q wanted by fs es) old →
        LeavesRest (all_ids q wanted by (between s e fs) (between s e es)) old mid → HaveSame (all_ids q wanted by ns ds ++ mid) new → HaveSame (all_ids q wanted by (splice fs s e ns) (splice es s e ds)) new
    same_spliced s e fs ns es ds old mid new long count order within had taken put weight =
        let left = left_around s e fs es old mid long order within had taken weight in
        let whole = sum_spliced weight s e fs ns es ds long count (omega (arith, order, within)) in
        let both : sum_by weight (all_ids q wanted by ns ds) + sum_by weight mid ≡ sum_by weight new = sym (sum_by-append weight (all_ids q wanted by ns ds) mid) ∙ put weight in
        omega (arith, left, whole, both)

    -- one entry's stamps more are taken out
    taken_more : (f : ℕ) (fs : List ℕ) (e : Entry) (es : List Entry) (old mid new : List (ℕ × Reach)) → length fs ≡ length es →
        LeavesRest (all_ids q wanted by fs es) old mid → LeavesRest (ids_of q wanted f (active_stamps by e)) mid new → LeavesRest (all_ids q wanted by (fs ++ f ∷ []) (es ++ e ∷ [])) old new
    taken_more f fs e es old mid new long first second rest had =
        let own = ids_of q wanted f (active_stamps by e) in
        let retired = all_ids q wanted by fs es in
        second rest (first (own ++ rest) (λ w.
        let whole = sum_by-append w (all_ids q wanted by (fs ++ f ∷ []) (es ++ e ∷ [])) rest in
        let split = sum_push by q wanted w fs es f e long in
        let one = sum_by-append w retired (own ++ rest) in
        let two = sum_by-append w own rest in
        let all = had w in
        omega (arith, whole, split, one, two, all)))

    -- one entry's stamps more are put in
    put_more : (f : ℕ) (fs : List ℕ) (e : Entry) (es : List Entry) (old mid new : List (ℕ × Reach)) → length fs ≡ length es →
        HaveSame (all_ids q wanted by fs es ++ old) mid → HaveSame (ids_of q wanted f (active_stamps by e) ++ mid) new → HaveSame (all_ids q wanted by (fs ++ f ∷ []) (es ++ e ∷ []) ++ old) new
    put_more f fs e es old mid new long first second w =
        let whole = sum_by-append w (all_ids q wanted by (fs ++ f ∷ []) (es ++ e ∷ [])) old in
        let split = sum_push by q wanted w fs es f e long in
        let one : sum_by w (all_ids q wanted by fs es) + sum_by w old ≡ sum_by w mid = sym (sum_by-append w (all_ids q wanted by fs es) old) ∙ first w in
        let two : sum_by w (ids_of q wanted f (active_stamps by e)) + sum_by w mid ≡ sum_by w new = sym (sum_by-append w (ids_of q wanted f (active_stamps by e)) mid) ∙ second w in
        omega (arith, whole, split, one, two)

  -- nothing was taken out
  pub taken_none : (x : StampIndex) → AreTaken by [] [] x x
  taken_none x = record { heading_of = refl; first_id_of = refl; profile = refl; settings = refl; reminding = λ rest had. had; plain = λ rest had. had }

  -- the stamps of one entry more were taken out
  pub taken_entry : (es : List Entry) (fs : List ℕ) (e : Entry) (f : ℕ) (x a b : StampIndex) → length fs ≡ length es → AreTaken by es fs x a → HasTaken f (active_stamps by e) a b → AreTaken by (es ++ e ∷ []) (fs ++ f ∷ []) x b
  taken_entry es fs e f x a b long first second = record {
    heading_of = second.heading_of ∙ first.heading_of;
    first_id_of = second.first_id_of ∙ first.first_id_of;
    profile = second.profile ∙ first.profile;
    settings = second.settings ∙ first.settings;
    reminding = taken_more x.profile is_reminding f fs e es x.reminding a.reminding b.reminding long first.reminding (subst (λ q. LeavesRest (ids_of q is_reminding f (active_stamps by e)) a.reminding b.reminding) first.profile second.reminding);
    plain = taken_more x.profile is_waiting f fs e es x.plain a.plain b.plain long first.plain (subst (λ q. LeavesRest (ids_of q is_waiting f (active_stamps by e)) a.plain b.plain) first.profile second.plain);
  }

  -- nothing was put in
  pub put_no_entries : (place : ℕ) (x : StampIndex) → AreFresh x → ArePut by place [] [] x x
  put_no_entries place x fresh = record {
    kept = record { long = omega arith; same = λ id at there. there };
    housed = tt;
    first_id_of = refl;
    profile = refl;
    settings = refl;
    few = λ le. le;
    fresh = fresh;
    reminding = λ weight. refl;
    plain = λ weight. refl;
  }

  -- the stamps of one entry more were put in
  pub put_entry : (place at : ℕ) (es : List Entry) (fs : List ℕ) (e : Entry) (x a b : StampIndex) → at ≡ place + length es → ArePut by place es fs x a → HasPut at (active_stamps by e) a b →
      ArePut by place (es ++ e ∷ []) (fs ++ length a.heading_of.items ∷ []) x b
  put_entry place at es fs e x a b is first second =
      let count = length (active_stamps by e) in
      let long = housed_long by a.heading_of.items place fs es first.housed in
      let stay : Stay a.heading_of.items b.heading_of.items =
      record {
        long = let l = ap length second.heading_of ∙ length-append a.heading_of.items (replicate count at) in omega (arith, l);
        same = λ id v there. ap (λ hs. slice_get hs id) second.heading_of ∙ get_append a.heading_of.items (replicate count at) id v there;
      } in
      let own : AreHeadingsOf b.heading_of.items (length a.heading_of.items) count (place + length es) =
      subst (AreHeadingsOf b.heading_of.items (length a.heading_of.items) count) is (subst (λ hs. AreHeadingsOf hs (length a.heading_of.items) count at) (sym second.heading_of) (headings_new a.heading_of.items count at)) in
      let housed = housed_led a.heading_of.items b.heading_of.items place place fs es (record { long = stay.long; same = λ id j lt there. stay.same id (place + j) there }) first.housed in
      record {
        kept = record { long = omega (arith, first.kept.long, stay.long); same = λ id v there. stay.same id v (first.kept.same id v there) };
        housed = housed_push by b.heading_of.items place fs es (length a.heading_of.items) e housed own;
        first_id_of = second.first_id_of ∙ first.first_id_of;
        profile = second.profile ∙ first.profile;
        settings = second.settings ∙ first.settings;
        few = λ le. second.few (first.few le);
        fresh = second.fresh;
        reminding = put_more x.profile is_reminding (length a.heading_of.items) fs e es x.reminding a.reminding b.reminding long first.reminding (subst (λ q. HaveSame (ids_of q is_reminding (length a.heading_of.items) (active_stamps by e) ++ a.reminding) b.reminding) first.profile second.reminding);
        plain = put_more x.profile is_waiting (length a.heading_of.items) fs e es x.plain a.plain b.plain long first.plain (subst (λ q. HaveSame (ids_of q is_waiting (length a.heading_of.items) (active_stamps by e) ++ a.plain) b.plain) first.profile second.plain);
      }

  -- after some entries' stamps were taken out the next id was never given
  pub fresh_left : (es : List Entry) (s e : ℕ) (x a b : StampIndex) → s ≤ e → e ≤ length es → IsIndexOf by es x → AreTaken by (between s e es) (between s e x.first_id_of.items) x a →
      length b.heading_of.items ≡ length a.heading_of.items → b.reminding ≡ a.reminding → b.plain ≡ a.plain → AreFresh b
  fresh_left es s e x a b order within is taken heading_of reminding plain =
      let long = housed_long by x.heading_of.items 0 x.first_id_of.items es is.housed in
      let count : length x.heading_of.items ≡ length b.heading_of.items = ap length (sym taken.heading_of) ∙ sym heading_of in
      record {
        reminding = subst (λ n. AreBelow n b.reminding) count (subst (AreBelow (length x.heading_of.items)) (sym reminding)
            (left_below x.profile is_reminding (length x.heading_of.items) s e x.first_id_of.items es x.reminding a.reminding long order within is.reminding taken.reminding (all_below by x.profile is_reminding x.heading_of.items 0 x.first_id_of.items es is.housed)));
        plain = subst (λ n. AreBelow n b.plain) count (subst (AreBelow (length x.heading_of.items)) (sym plain)
            (left_below x.profile is_waiting (length x.heading_of.items) s e x.first_id_of.items es x.plain a.plain long order within is.plain taken.plain (all_below by x.profile is_waiting x.heading_of.items 0 x.first_id_of.items es is.housed)));
      }

  -- the stamps in a range were taken out, the places after it moved, and others put in
  pub replaced_is : (es : List Entry) (s e : ℕ) (ds : List Entry) (ns : List ℕ) (x a b y z : StampIndex) → s ≤ e → e ≤ length es → s + length ds + (length es - e) ≤ 2 ^ 64 - 1 →
      IsIndexOf by es x → AreTaken by (between s e es) (between s e x.first_id_of.items) x a →
      b.heading_of.items ≡ map (moved e (s + length ds)) a.heading_of.items → b.first_id_of.items ≡ a.first_id_of.items → b.profile ≡ a.profile → b.reminding ≡ a.reminding → b.plain ≡ a.plain → ArePut by s ds ns b y →
      z.heading_of.items ≡ y.heading_of.items → z.first_id_of.items ≡ splice y.first_id_of.items s e ns → z.profile ≡ y.profile → z.reminding ≡ y.reminding → z.plain ≡ y.plain → IsIndexOf by (splice es s e ds) z
  replaced_is es s e ds ns x a b y z order within small is taken heading_of_b first_id_of_b profile_b reminding_b others_b put heading_of first_id_of profile reminding plain =
      let fs = x.first_id_of.items in
      let behind : ℕ = s + length ds in
      let long = housed_long by x.heading_of.items 0 fs es is.housed in
      let count = housed_long by y.heading_of.items s ns ds put.housed in
      let to : List ℕ = map (moved e behind) x.heading_of.items in
      let moved_is : b.heading_of.items ≡ to = heading_of_b ∙ ap (map (moved e behind)) taken.heading_of in
      let stay : Stay to y.heading_of.items = subst (λ hs. Stay hs y.heading_of.items) moved_is put.kept in
      let size : length (take s es) ≡ s = length-take-le s es (omega (arith, order, within)) in
      let rest : length (drop e es) ≡ length es - e = length-drop e es in
      let first : AreHoused by y.heading_of.items 0 (take s fs) (take s es) =
      housed_led x.heading_of.items y.heading_of.items 0 0 (take s fs) (take s es) (leads_on x.heading_of.items to y.heading_of.items 0 0 (length (take s es)) (leads_before x.heading_of.items e behind (length (take s es)) (omega (arith, size, order))) stay) (housed_take x.heading_of.items 0 s fs es is.housed) in
      let last : AreHoused by y.heading_of.items behind (drop e fs) (drop e es) =
      housed_led x.heading_of.items y.heading_of.items e behind (drop e fs) (drop e es) (leads_on x.heading_of.items to y.heading_of.items e behind (length (drop e es)) (leads_behind x.heading_of.items e behind (length (drop e es)) (omega (arith, rest, small))) stay)
      (subst (λ n. AreHoused by x.heading_of.items n (drop e fs) (drop e es)) (let w : 0 + e ≡ e = omega arith in w) (housed_drop x.heading_of.items 0 e fs es is.housed)) in
      let all : AreHoused by y.heading_of.items 0 (splice fs s e ns) (splice es s e ds) =
      housed_append y.heading_of.items 0 (take s fs) (ns ++ drop e fs) (take s es) (ds ++ drop e es) first (subst (λ n. AreHoused by y.heading_of.items n (ns ++ drop e fs) (ds ++ drop e es)) (let w : s ≡ 0 + length (take s es) = omega (arith, size) in w)
      (housed_append y.heading_of.items s ns (drop e fs) ds (drop e es) put.housed last)) in
      let first_ids_are : z.first_id_of.items ≡ splice fs s e ns = first_id_of ∙ ap (λ gs. splice gs s e ns) (put.first_id_of ∙ first_id_of_b ∙ taken.first_id_of) in
      let profile_is : z.profile ≡ x.profile = profile ∙ put.profile ∙ profile_b ∙ taken.profile in
      let own : b.profile ≡ x.profile = profile_b ∙ taken.profile in
      let put_reminding : HaveSame (all_ids x.profile is_reminding by ns ds ++ a.reminding) y.reminding = λ w. (λ i. sum_by w (all_ids (sym own i) is_reminding by ns ds ++ sym reminding_b i)) ∙ put.reminding w in
      let put_others : HaveSame (all_ids x.profile is_waiting by ns ds ++ a.plain) y.plain = λ w. (λ i. sum_by w (all_ids (sym own i) is_waiting by ns ds ++ sym others_b i)) ∙ put.plain w in
      let few_b : length b.heading_of.items ≤ 2 ^ 32 = let l = ap length moved_is ∙ length-map x.heading_of.items (moved e behind) in omega (arith, l, is.few) in
      record {
        housed = subst (λ hs. AreHoused by hs 0 z.first_id_of.items (splice es s e ds)) (sym heading_of) (subst (λ gs. AreHoused by y.heading_of.items 0 gs (splice es s e ds)) (sym first_ids_are) all);
        few = subst (λ (hs : List ℕ). length hs ≤ 2 ^ 32) (sym heading_of) (put.few few_b);
        reminding = λ w.
            (λ i. sum_by w (all_ids (profile_is i) is_reminding by (first_ids_are i) (splice es s e ds)))
            ∙ same_spliced x.profile is_reminding s e fs ns es ds x.reminding a.reminding y.reminding long count order within is.reminding taken.reminding put_reminding w
            ∙ ap (sum_by w) (sym reminding);
        plain = λ w.
            (λ i. sum_by w (all_ids (profile_is i) is_waiting by (first_ids_are i) (splice es s e ds)))
            ∙ same_spliced x.profile is_waiting s e fs ns es ds x.plain a.plain y.plain long count order within is.plain taken.plain put_others w
            ∙ ap (sum_by w) (sym plain);
      }

-- what stands between the ends of a range that was replaced is what was put there
pub spliced_long : (es : List Entry) (s e : ℕ) (ds : List Entry) → s ≤ e → e ≤ length es → length (splice es s e ds) ≡ s + length ds + (length es - e)
spliced_long es s e ds order within =
    let one = length-append (take s es) (ds ++ drop e es) in
    let two = length-append ds (drop e es) in
    let three = length-take-le s es (omega (arith, order, within)) in
    let four = length-drop e es in
    omega (arith, one, two, three, four)

-- and after them stands what stood after the range
pub behind_is : (es : List Entry) (s e : ℕ) (ds : List Entry) → s ≤ e → e ≤ length es → behind_in es e (splice es s e ds) ≡ s + length ds
behind_is es s e ds order within = let long = spliced_long es s e ds order within in omega (arith, long, within)

pub is_replaced : (es : List Entry) (s e : ℕ) (ds new : List Entry) → s ≤ e → e ≤ length es → new ≡ splice es s e ds → IsReplaced es s e new
is_replaced es s e ds new order within is =
    let size : length (take s es) ≡ s = length-take-le s es (omega (arith, order, within)) in
    let cut : drop s (splice es s e ds) ≡ ds ++ drop e es = ap (λ n. drop n (splice es s e ds)) (sym size) ∙ drop-append_seam (take s es) (ds ++ drop e es) in
    let count : behind_in es e (splice es s e ds) - s ≡ length ds = let b = behind_is es s e ds order within in omega (arith, b) in
    let own : between s (behind_in es e (splice es s e ds)) (splice es s e ds) ≡ ds = (λ i. take (count i) (cut i)) ∙ take-append_seam ds (drop e es) in
    subst (IsReplaced es s e) (sym is) (ap (splice es s e) (sym own))
