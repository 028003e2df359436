-- Stamps put in, one by one.
use Rattle.std.proofs.Common.{◌≡◌, ◌∙◌, ℕ, zero, suc, ◌+◌, ◌^◌, ◌<◌, ◌≤◌, Bool, true, false, List, [], ◌∷◌, ◌++◌, length, take, get_or, sym, ap, refl, subst, arith, append_assoc}
use Rattle.std.specs.Prelude.{replicate, not, Result, Ok, Err, OnOk}
use Rattle.std.specs.List.{sum_by}
use Rattle.std.specs.BTreeMap.{insert_entry}
use Rattle.std.specs.Ordering.{nat_cmp}
use Rattle.std.proofs.lemmas.List.{take_more, take_all, length-append, append-nil}
use Rattle.std.proofs.lemmas.List.Sums.{sum_by-cons, sum_by-append}
use Rattle.org_base.specs.declared.profile.Profile.{Profile}
use Rattle.org_index.specs.Reaches.{reach_of}
use Rattle.org_index.specs.declared.reach.Reach.{Reach}
use Rattle.org_stamp_index.specs.NearQuery.{is_reminding}
use Rattle.org_entry.specs.declared.active.EntryStamp.{EntryStamp}
use Rattle.org_stamp_index.specs.Index.{AreBelow, AreFresh, HasPut, HaveSame, ids_of, is_waiting}
use Rattle.org_stamp_index.specs.declared.index.StampIndex.{StampIndex}
use Rattle.org_stamp_index.proofs.SumLemmas.{below_insert, below_more, sum_ids_append, sum_insert}

-- one id more, and its stamp
pub same_put : (n : ℕ) (e : Reach) (ps : List (ℕ × Reach)) → AreBelow n ps → HaveSame ((n, e) ∷ ps) (insert_entry nat_cmp ps n e)
same_put n e ps below weight = sum_by-cons weight (n, e) ps ∙ sym (sum_insert weight n e ps below)

-- nothing was put in
pub put_none : (place : ℕ) (x : StampIndex) → AreFresh x → HasPut place [] x x
put_none place x fresh = record {
  heading_of = sym (append-nil x.heading_of.items);
  first_id_of = refl;
  profile = refl;
  settings = refl;
  few = λ le. le;
  fresh = fresh;
  reminding = λ weight. refl;
  plain = λ weight. refl;
}

-- the ids of stamps and of one more, before what was there
module _ (q : Profile) (wanted : EntryStamp → Bool) where
  ids_more : (id next : ℕ) (ss : List EntryStamp) (s : EntryStamp) (old mid new : List (ℕ × Reach)) → next ≡ id + length ss →
      HaveSame (ids_of q wanted id ss ++ old) mid → HaveSame (ids_of q wanted next (s ∷ []) ++ mid) new → HaveSame (ids_of q wanted id (ss ++ s ∷ []) ++ old) new
  ids_more id next ss s old mid new is first second weight =
      let whole = sum_by-append weight (ids_of q wanted id (ss ++ s ∷ [])) old in
      let split = sum_ids_append q wanted weight id ss (s ∷ []) in
      let at : sum_by weight (ids_of q wanted next (s ∷ [])) ≡ sum_by weight (ids_of q wanted (id + length ss) (s ∷ [])) = ap (λ n. sum_by weight (ids_of q wanted n (s ∷ []))) is in
      let one : sum_by weight (ids_of q wanted id ss) + sum_by weight old ≡ sum_by weight mid = sym (sum_by-append weight (ids_of q wanted id ss) old) ∙ first weight in
      let two : sum_by weight (ids_of q wanted next (s ∷ [])) + sum_by weight mid ≡ sum_by weight new = sym (sum_by-append weight (ids_of q wanted next (s ∷ [])) mid) ∙ second weight in
      omega (arith, whole, split, at, one, two)

replicate_more : (n : ℕ) (place : ℕ) → replicate (suc n) place ≡ replicate n place ++ place ∷ []
replicate_more zero place = refl
replicate_more (suc n) place = ap (λ ps. place ∷ ps) (replicate_more n place)

length_replicate : (n place : ℕ) → length (replicate n place) ≡ n
length_replicate zero place = refl
length_replicate (suc n) place = let more = length_replicate n place in omega (arith, more)

-- stamps were put in, and one more
pub put_more : (place : ℕ) (ss : List EntryStamp) (s : EntryStamp) (a b c : StampIndex) → HasPut place ss a b → HasPut place (s ∷ []) b c → HasPut place (ss ++ s ∷ []) a c
put_more place ss s a b c first second =
    let count : length b.heading_of.items ≡ length a.heading_of.items + length ss =
    ap length first.heading_of ∙ length-append a.heading_of.items (replicate (length ss) place) ∙ ap (λ n. length a.heading_of.items + n) (length_replicate (length ss) place) in
    let more : length (ss ++ s ∷ []) ≡ suc (length ss) = let e = length-append ss (s ∷ []) in omega (arith, e) in
    record {
      heading_of = second.heading_of
          ∙ ap (λ h. h ++ place ∷ []) first.heading_of
          ∙ append_assoc a.heading_of.items (replicate (length ss) place) (place ∷ [])
          ∙ ap (λ h. a.heading_of.items ++ h) (sym (replicate_more (length ss) place) ∙ ap (λ n. replicate n place) (sym more));
      first_id_of = second.first_id_of ∙ first.first_id_of;
      profile = second.profile ∙ first.profile;
      settings = second.settings ∙ first.settings;
      few = λ le. second.few (first.few le);
      fresh = second.fresh;
      reminding = ids_more a.profile is_reminding (length a.heading_of.items) (length b.heading_of.items) ss s a.reminding b.reminding c.reminding count first.reminding (subst (λ q. HaveSame (ids_of q is_reminding (length b.heading_of.items) (s ∷ []) ++ b.reminding) c.reminding) first.profile second.reminding);
      plain = ids_more a.profile is_waiting (length a.heading_of.items) (length b.heading_of.items) ss s a.plain b.plain c.plain count first.plain (subst (λ q. HaveSame (ids_of q is_waiting (length b.heading_of.items) (s ∷ []) ++ b.plain) c.plain) first.profile second.plain);
    }

-- one of some stamps more
pub put_taken : (place : ℕ) (all : List EntryStamp) (i : ℕ) (s : EntryStamp) (a b c : StampIndex) → i < length all → s ≡ get_or all i s → HasPut place (take i all) a b → HasPut place (s ∷ []) b c → HasPut place (take (i + 1) all) a c
put_taken place all i s a b c lt at first second =
    subst (λ ss. HasPut place ss a c) (sym (take_more all i s lt ∙ ap (λ y. take i all ++ y ∷ []) (sym at))) (put_more place (take i all) s a b c first second)

pub put_whole : (place : ℕ) (all : List EntryStamp) (i : ℕ) (a b : StampIndex) → length all ≤ i → HasPut place (take i all) a b → HasPut place all a b
put_whole place all i a b le put = subst (λ ss. HasPut place ss a b) (take_all i all le) put

pub on_ok : {T E : Type 0} (r : Result T E) (P Q : Type 0) → (P → Q) → OnOk r P → OnOk r Q
on_ok (Ok v) P Q f p = f p
on_ok (Err e) P Q f p = tt

-- one stamp was put in, into the index of its kind
module _ (place : ℕ) (s : EntryStamp) (x y : StampIndex) (fresh : AreFresh x)
    (heading_of : y.heading_of.items ≡ x.heading_of.items ++ place ∷ []) (first_id_of : y.first_id_of.items ≡ x.first_id_of.items) (profile : y.profile ≡ x.profile) (settings : y.settings.value ≡ x.settings.value) (few : length x.heading_of.items < 2 ^ 32) where
  abbrev next : ℕ
  next = length x.heading_of.items

  longer : length y.heading_of.items ≡ next + 1
  longer = ap length heading_of ∙ length-append x.heading_of.items (place ∷ [])

  -- what didn't change
  same_below : (ps qs : List (ℕ × Reach)) → qs ≡ ps → AreBelow next ps → AreBelow (length y.heading_of.items) qs
  same_below ps qs same below = subst (λ n. AreBelow n qs) (sym longer) (subst (AreBelow (next + 1)) (sym same) (below_more next (next + 1) ps (omega arith) below))

  -- and what did
  put_below : (ps qs : List (ℕ × Reach)) → qs ≡ insert_entry nat_cmp ps next (reach_of x.profile s.stamp) → AreBelow next ps → AreBelow (length y.heading_of.items) qs
  put_below ps qs is below = subst (λ n. AreBelow n qs) (sym longer) (subst (AreBelow (next + 1)) (sym is) (below_insert next (reach_of x.profile s.stamp) ps below))

  wanted_same : (wanted : EntryStamp → Bool) (ps qs : List (ℕ × Reach)) → wanted s ≡ true → qs ≡ insert_entry nat_cmp ps next (reach_of x.profile s.stamp) → AreBelow next ps → HaveSame (ids_of x.profile wanted next (s ∷ []) ++ ps) qs
  wanted_same wanted ps qs wants is below weight =
      let one : ids_of x.profile wanted next (s ∷ []) ≡ (next, reach_of x.profile s.stamp) ∷ [] = rw wants refl in
      ap (λ xs. sum_by weight (xs ++ ps)) one ∙ same_put next (reach_of x.profile s.stamp) ps below weight ∙ ap (sum_by weight) (sym is)

  other_same : (wanted : EntryStamp → Bool) (ps qs : List (ℕ × Reach)) → wanted s ≡ false → qs ≡ ps → HaveSame (ids_of x.profile wanted next (s ∷ []) ++ ps) qs
  other_same wanted ps qs wants is weight =
      let none : ids_of x.profile wanted next (s ∷ []) ≡ [] = rw wants refl in
      ap (λ xs. sum_by weight (xs ++ ps)) none ∙ ap (sum_by weight) (sym is)

  pub put_reminding : is_reminding s ≡ true → y.reminding ≡ insert_entry nat_cmp x.reminding next (reach_of x.profile s.stamp) → y.plain ≡ x.plain → HasPut place (s ∷ []) x y
  put_reminding presses new same = record {
    heading_of = heading_of;
    first_id_of = first_id_of;
    profile = profile;
    settings = settings;
    few = λ le. omega (arith, longer, few);
    fresh = record { reminding = put_below x.reminding y.reminding new fresh.reminding; plain = same_below x.plain y.plain same fresh.plain };
    reminding = wanted_same is_reminding x.reminding y.reminding presses new fresh.reminding;
    plain = other_same is_waiting x.plain y.plain (ap not presses) same;
  }

  pub put_waiting : is_reminding s ≡ false → y.plain ≡ insert_entry nat_cmp x.plain next (reach_of x.profile s.stamp) → y.reminding ≡ x.reminding → HasPut place (s ∷ []) x y
  put_waiting waits new same = record {
    heading_of = heading_of;
    first_id_of = first_id_of;
    profile = profile;
    settings = settings;
    few = λ le. omega (arith, longer, few);
    fresh = record { reminding = same_below x.reminding y.reminding same fresh.reminding; plain = put_below x.plain y.plain new fresh.plain };
    reminding = other_same is_reminding x.reminding y.reminding waits same;
    plain = wanted_same is_waiting x.plain y.plain (ap not waits) new fresh.plain;
  }
