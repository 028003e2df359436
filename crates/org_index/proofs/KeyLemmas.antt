-- Spots of a set of days on some days.
use Rattle.std.proofs.Common.{ap, ◌++◌, ◌≡◌, ◌↔◌, ◌⊎◌, ℕ, ◌+◌, ◌≤◌, Bool, true, false, cond, ◌||◌, ◌&&◌, nat_eq, nat_le, List, [], ◌∷◌, IsTrue, inl, inr, refl, sym, true≢false, ◌∙◌, arith}
use Rattle.std.specs.Prelude.{Option, Some, if◌then◌else◌}
use Rattle.std.specs.List.{filter, list_any}
use Rattle.std.specs.declared.ops.Bound.TheVariants.{Included, Excluded}
use Rattle.std.specs.BTreeMap.{is_at}
use Rattle.std.specs.BTreeMap.Range.{range_contains}
use Rattle.std.proofs.lemmas.Bool.Decides.{nat_tests}
use Rattle.std.specs.Prelude.{Result, Ok, Err, OnOk}
use Rattle.std.specs.BTreeSet.{BTreeSet}
use Rattle.org_index.specs.DaySet.{key_cmp, stands_in, Has, IsGathered, Keeps, Adds}
use Rattle.org_index.specs.DaySet.{is_day}
use Rattle.org_index.proofs.FilterLemmas.{contains_cases, contains_there}

pub on_days : (from to : ℕ) (k : ℕ × ℕ) → range_contains key_cmp (Included (from, 0)) (Excluded (to + 1, 0)) k ≡ (nat_le from k.0 && nat_le k.0 to)
on_days from to k = grind (arith, nat_tests)

pub at_key : (d i : ℕ) (k : ℕ × ℕ) → is_at (key_cmp (d, i)) k ≡ (nat_eq d k.0 && nat_eq i k.1)
at_key d i k = grind (arith, nat_tests)

both_true : (a b : Bool) → IsTrue (a && b) ↔ (IsTrue a × IsTrue b)
both_true true b = (λ h. (refl, h), λ h. h.1)
both_true false b = (λ h. absurd (true≢false (sym h)), λ h. h.0)

either_true : (a b : Bool) → IsTrue (a || b) ↔ (IsTrue a ⊎ IsTrue b)
either_true true b = (λ h. inl refl, λ h. refl)
either_true false b = (λ h. inr h, λ h. elim h [ inl e ↦ absurd (true≢false (sym e)) | inr e ↦ e ])

-- the filtered keys have the id just where it stands on one of the days
abbrev pub OnDays : ℕ → ℕ → ℕ → List (ℕ × ℕ) → Type 0
OnDays from to i ks = (d : ℕ) × (from ≤ d) × (d ≤ to) × IsTrue (list_any (is_at (key_cmp (d, i))) ks)

more_days : (from to i : ℕ) (k : ℕ × ℕ) (ks : List (ℕ × ℕ)) → OnDays from to i ks → OnDays from to i (k ∷ ks)
more_days from to i k ks h = (h.0, h.1, h.2, (either_true (is_at (key_cmp (h.0, i)) k) (list_any (is_at (key_cmp (h.0, i))) ks)).1 (inr h.3))

here_days : (from to i : ℕ) (k : ℕ × ℕ) (ks : List (ℕ × ℕ)) → (nat_le from k.0 && nat_le k.0 to) ≡ true → IsTrue (nat_eq i k.1) → OnDays from to i (k ∷ ks)
here_days from to i k ks days same =
    let at : is_at (key_cmp (k.0, i)) k ≡ true = at_key k.0 i k ∙ grind (arith, nat_tests) in
    (k.0, grind (arith, nat_tests), grind (arith, nat_tests), (either_true (is_at (key_cmp (k.0, i)) k) (list_any (is_at (key_cmp (k.0, i))) ks)).1 (inl at))

go : (from to i : ℕ) (k : ℕ × ℕ) (ks : List (ℕ × ℕ)) (b : Bool) → b ≡ (nat_le from k.0 && nat_le k.0 to) → (IsTrue (stands_in i (filter (range_contains key_cmp (Included (from, 0)) (Excluded (to + 1, 0))) ks)) ↔ OnDays from to i ks) → IsTrue (stands_in i (cond b (k ∷ filter (range_contains key_cmp (Included (from, 0)) (Excluded (to + 1, 0))) ks) (filter (range_contains key_cmp (Included (from, 0)) (Excluded (to + 1, 0))) ks))) ↔ OnDays from to i (k ∷ ks)
go from to i k ks true e rest =
    let rest_in = stands_in i (filter (range_contains key_cmp (Included (from, 0)) (Excluded (to + 1, 0))) ks) in (
      λ h. elim ((either_true (nat_eq i k.1) rest_in).0 h) [
        | inl a ↦ here_days from to i k ks (sym e) a
        | inr a ↦ more_days from to i k ks (rest.0 a)
      ],
      λ h. elim ((either_true (is_at (key_cmp (h.0, i)) k) (list_any (is_at (key_cmp (h.0, i))) ks)).0 h.3) [
        | inl a ↦ (either_true (nat_eq i k.1) rest_in).1 (inl ((both_true (nat_eq h.0 k.0) (nat_eq i k.1)).0 (sym (at_key h.0 i k) ∙ a)).1)
        | inr a ↦ (either_true (nat_eq i k.1) rest_in).1 (inr (rest.1 (h.0, h.1, h.2, a)))
      ],
    )
go from to i k ks false e rest = (
  λ h. more_days from to i k ks (rest.0 h),
  λ h. elim ((either_true (is_at (key_cmp (h.0, i)) k) (list_any (is_at (key_cmp (h.0, i))) ks)).0 h.3) [
    | inl a ↦
        let same = ((both_true (nat_eq h.0 k.0) (nat_eq i k.1)).0 (sym (at_key h.0 i k) ∙ a)).0 in
        let low : from ≤ h.0 = h.1 in
        let high : h.0 ≤ to = h.2 in
        absurd (grind (arith, nat_tests))
    | inr a ↦ rest.1 (h.0, h.1, h.2, a)
  ],
)

pub stands_on_days : (from to i : ℕ) (ks : List (ℕ × ℕ)) → IsTrue (stands_in i (filter (range_contains key_cmp (Included (from, 0)) (Excluded (to + 1, 0))) ks)) ↔ OnDays from to i ks
stands_on_days from to i [] = (λ h. absurd (true≢false (sym h)), λ h. absurd (true≢false (sym h.3)))
stands_on_days from to i (k ∷ ks) = go from to i k ks (range_contains key_cmp (Included (from, 0)) (Excluded (to + 1, 0)) k) (on_days from to k) (stands_on_days from to i ks)

-- the id is among these, as a test
abbrev pub has_id : List ℕ → ℕ → Bool
has_id ids id = list_any (nat_eq id) ids

same_id : (id x : ℕ) → IsTrue (nat_eq id x) → x ≡ id
same_id id x h = grind (arith, nat_tests)

other_id : (id x : ℕ) → x ≡ id → IsTrue (nat_eq id x)
other_id id x h = grind (arith, nat_tests)

has_iff : (ids : List ℕ) (id : ℕ) → IsTrue (has_id ids id) ↔ Has ids id
has_iff [] id = (λ h. absurd (true≢false (sym h)), λ h. absurd (omega (arith, h.1)))
has_iff (x ∷ ids) id = (
  λ h. elim ((either_true (nat_eq id x) (has_id ids id)).0 h) [
    | inl here ↦ (0, omega arith, same_id id x here)
    | inr later ↦ contains_there x id ids ((has_iff ids id).0 later)
  ],
  λ h. (either_true (nat_eq id x) (has_id ids id)).1 (elim (contains_cases x id ids h.0 h.1 h.2) [
    | inl here ↦ inl (other_id id x here)
    | inr later ↦ inr ((has_iff ids id).1 later)
  ]),
)

or_last : (a b : Bool) → ((a || false) || b) ≡ (a || b)
or_last true b = refl
or_last false b = refl

or_next : (a b c d e : Bool) → (b || c) ≡ (d || e) → ((a || b) || c) ≡ ((a || d) || e)
or_next true b c d e same = refl
or_next false b c d e same = same

pushed : (ids : List ℕ) (id : ℕ) (k : ℕ × ℕ) (ks : List (ℕ × ℕ)) → (has_id (ids ++ k.1 ∷ []) id || stands_in id ks) ≡ (has_id ids id || stands_in id (k ∷ ks))
pushed [] id k ks = or_last (nat_eq id k.1) (stands_in id ks)
pushed (x ∷ ids) id k ks = or_next (nat_eq id x) (has_id (ids ++ k.1 ∷ []) id) (stands_in id ks) (has_id ids id) (stands_in id (k ∷ ks)) (pushed ids id k ks)

-- one more that was gathered is one less that stands there
pub gathered_more : (old new : List ℕ) (k : ℕ × ℕ) (left rest : List (ℕ × ℕ)) (all : ℕ → Bool) → new ≡ old ++ k.1 ∷ [] → left ≡ k ∷ rest →
    ((id : ℕ) → (has_id old id || stands_in id left) ≡ all id) → (id : ℕ) → (has_id new id || stands_in id rest) ≡ all id
gathered_more old new k left rest all more first h id =
    ap (λ ids. has_id ids id || stands_in id rest) more ∙ pushed old id k rest ∙ ap (λ ks. has_id old id || stands_in id ks) (sym first) ∙ h id

gather_ids : (old new all : Bool) (Q : Type 0) → (new || false) ≡ (old || all) → (IsTrue all ↔ Q) → IsTrue new ↔ (IsTrue old ⊎ Q)
gather_ids old false all Q e on = (
  λ h. absurd (true≢false (sym h)),
  λ h. elim h [ inl a ↦ e ∙ (either_true old all).1 (inl a) | inr a ↦ e ∙ (either_true old all).1 (inr (on.1 a)) ],
)
gather_ids old true all Q e on = (
  λ h. elim ((either_true old all).0 (sym e)) [ inl a ↦ inl a | inr a ↦ inr (on.0 a) ],
  λ h. refl,
)

-- so what was gathered is what was there, and what stands on the days
pub gathered : (old new : List ℕ) (id : ℕ) (all : Bool) (Q : Type 0) → (has_id new id || false) ≡ (has_id old id || all) → (IsTrue all ↔ Q) → Has new id ↔ (Has old id ⊎ Q)
gathered old new id all Q e on =
    let both = gather_ids (has_id old id) (has_id new id) all Q e on in (
      λ h. elim (both.0 ((has_iff new id).1 h)) [ inl before ↦ inl ((has_iff old id).0 before) | inr q ↦ inr q ],
      λ h. (has_iff new id).0 (both.1 (elim h [ inl before ↦ inl ((has_iff old id).1 before) | inr q ↦ inr q ])),
    )

set_at : (e id d i : ℕ) → is_at (key_cmp (e, id)) (d, i) ≡ (nat_eq i id && nat_eq e d)
set_at e id d i = grind (arith, nat_tests)

same_if : (a b v old : Bool) → a ≡ b → cond a v old ≡ (if b then v else old)
same_if true true v old e = refl
same_if false false v old e = refl
same_if true false v old e = absurd (true≢false e)
same_if false true v old e = absurd (true≢false (sym e))

pub set_is : (day : Option ℕ) (e id d i : ℕ) (v old new : Bool) → day ≡ Some e → new ≡ cond (is_at (key_cmp (e, id)) (d, i)) v old → new ≡ (if nat_eq i id && is_day day d then v else old)
set_is day e id d i v old new is eq = rw is (eq ∙ same_if (is_at (key_cmp (e, id)) (d, i)) (nat_eq i id && nat_eq e d) v old (set_at e id d i))

-- what was gathered is kept, and is there
pub ok_keeps : {E : Type 0} (r : Result (Unit {0}) E) (old : List ℕ) (day_set : BTreeSet (ℕ × ℕ)) (from to : ℕ) (new : List ℕ) → OnOk r (IsGathered old day_set from to new) → OnOk r (Keeps old new)
ok_keeps (Ok u) old day_set from to new h = λ id x. (h id).1 (inl x)
ok_keeps (Err e) old day_set from to new h = tt

pub ok_adds : {E : Type 0} (r : Result (Unit {0}) E) (old : List ℕ) (day_set : BTreeSet (ℕ × ℕ)) (from to : ℕ) (new : List ℕ) → OnOk r (IsGathered old day_set from to new) → OnOk r (Adds day_set from to new)
ok_adds (Ok u) old day_set from to new h = λ id day low high x. (h id).1 (inr (day, low, high, x))
ok_adds (Err e) old day_set from to new h = tt
