-- The functions tell on which days a stamp occurs, which copy of a range a day shows, and where a stamp begins next.
use Rattle.std.proofs.Common.{◌≡◌, ◌↔◌, ◌⊎◌, ℕ, zero, suc, ℤ, pos, ◌*ℤ◌, ◌+◌, ◌*◌, ◌<◌, ◌≤◌, Bool, true, false, ◌&&◌, ◌||◌, ◌==◌, Option, Some, None, inl, inr, refl, sym, ◌∙◌, ap, subst, arith, eq-eqb, true≢false}
use Rattle.std.proofs.lemmas.Bool.Decides.{nat_tests}
use Rattle.std.specs.Prelude.{IsTrue, IfSome, is_some, nat_le, if◌then◌else◌, unwrap_or}
use Rattle.std.proofs.lemmas.Bool.{cases_Bool, cases_lt, eqb-true}
use Rattle.std.proofs.lemmas.Option.{same_Some}
use Rattle.org_base.specs.declared.profile.Profile.{Profile}
use Rattle.org_base.specs.declared.profile.Profile.TheVariants.{One, Two}
use Rattle.jiff_core.proofs.SignedLemmas.{signed_arith}
use Rattle.org_cal.specs.Added.{IsMonthsAfter, month_index, day_of_month}
use Rattle.org_cal.specs.Blocks.{this_month}
use Rattle.org_cal.specs.Days.{IsDay}
use Rattle.org_cal.specs.Parts.{month_day_of, month_of, year_of}
use Rattle.org_cal.specs.declared.unit.Unit.{Unit as TimeUnit}
use Rattle.org_cal.specs.declared.unit.Unit.TheVariants.{Hour, Day, Week, Month, Year}
use Rattle.org_cal.proofs.PartLemmas.{date_holds, parts_are}
use Rattle.org_stamp.specs.declared.mark.Repeater.{Repeater}
use Rattle.org_stamp.specs.declared.stamp.Stamp.{Stamp}
use Rattle.org_repeat.specs.First.{HasNoneFrom}
use Rattle.org_repeat.specs.Occurs.{Begins, Hits, HoldsCopy, Repeats, OccursBy, OccursInRange, OccursOn, Occurs}
use Rattle.org_repeat.specs.Decided.{NextIsDecided, StartIsDecided, any_below, begins_on, first_passing, is_day, is_months_after, hits, last_below, next_after, occurs, range_start, start_in}
use Rattle.org_repeat.proofs.DecidedWords.{holds_copy, most_intervals, occurs_by, occurs_in, start_of}
use Rattle.org_repeat.specs.Starts.{IsNextAfter, IsRangeStart, IsStartIn, IsStartOf}
use Rattle.org_repeat.proofs.CopyLemmas.{begins_day}

and_left : (a b : Bool) → (a && b) ≡ true → a ≡ true
and_left true b h = refl
and_left false b h = h

and_right : (a b : Bool) → (a && b) ≡ true → b ≡ true
and_right true b h = h
and_right false b h = absurd (cc)

and_both : (a b : Bool) → a ≡ true → b ≡ true → (a && b) ≡ true
and_both a b h g = rw (h, g) refl

or_cases : (a b : Bool) → (a || b) ≡ true → (a ≡ true) ⊎ (b ≡ true)
or_cases true b h = inl refl
or_cases false b h = inr h

or_left : (a b : Bool) → a ≡ true → (a || b) ≡ true
or_left a b h = rw h refl

or_right : (a b : Bool) → b ≡ true → (a || b) ≡ true
or_right true b h = refl
or_right false b h = h

le_true : (a b : ℕ) → a ≤ b → nat_le a b ≡ true
le_true a b h = grind (arith, nat_tests)

true_le : (a b : ℕ) → nat_le a b ≡ true → a ≤ b
true_le a b h = grind (arith, nat_tests)

below_cases : (k n : ℕ) → k < suc n → (k ≡ n) ⊎ (k < n)
below_cases k n h = grind arith

any_true : (p : ℕ → Bool) (n k : ℕ) → k < n → p k ≡ true → any_below p n ≡ true
unfolding any_below
any_true p zero k lt h = absurd (omega (arith, lt))
any_true p (suc n) k lt h = elim (below_cases k n lt) [
  | inl e ↦ or_left (p n) (any_below p n) (subst (λ (x : ℕ). p x ≡ true) e h)
  | inr l ↦ or_right (p n) (any_below p n) (any_true p n k l h)
]

any_some : (p : ℕ → Bool) (n : ℕ) → any_below p n ≡ true → (k : ℕ) × (k < n) × (p k ≡ true)
unfolding any_below
any_some p zero h = absurd (cc)
any_some p (suc n) h = elim (or_cases (p n) (any_below p n) h) [
  | inl here ↦ (n, omega arith, here)
  | inr there ↦ let r = any_some p n there in let lt : r.0 < n = r.1 in (r.0, omega (arith, lt), r.2)
]

is_day_of : (day : ℕ) → IsDay day → is_day day ≡ true
is_day_of day h = and_both (nat_le 1 day) (nat_le day 3_652_059) (le_true 1 day h.0) (le_true day 3_652_059 h.1)

of_is_day : (day : ℕ) → is_day day ≡ true → IsDay day
of_is_day day h = (true_le 1 day (and_left _ _ h), true_le day 3_652_059 (and_right _ _ h))

months_test : (base n day : ℕ) → IsMonthsAfter base (pos n) day → is_months_after base n day ≡ true
months_test base n day r =
    let p = parts_are base r.year r.month r.date r.real r.base_is in
    let own : this_month base ≡ month_index r.year r.month = (λ i. month_index (p.0 i) (p.1 i)) in
    let index : this_month base + n ≡ r.index = omega (arith, signed_arith, own, r.index_is) in
    let date : month_day_of base ≡ r.date = p.2 in
    let is : day ≡ day_of_month (this_month base + n) (month_day_of base) = r.day_is ∙ sym (λ i. day_of_month (index i) (date i)) in
    and_both (nat_le (this_month base + n) 119_999) (day == day_of_month (this_month base + n) (month_day_of base)) (le_true _ _ (omega (arith, index, r.in_years))) (eq-eqb _ _ is)

months_hit : (base n day : ℕ) → IsDay base → is_months_after base n day ≡ true → IsMonthsAfter base (pos n) day
months_hit base n day b h =
    let real = date_holds base b in
    record {
      year = year_of base;
      month = month_of base;
      date = month_day_of base;
      index = this_month base + n;
      real = real.0;
      base_is = real.1;
      index_is = omega (arith, signed_arith);
      in_years = (omega (arith, real.0.0, real.0.1), true_le _ _ (and_left _ _ h));
      day_is = eqb-true _ _ (and_right _ _ h);
    }

twelve : (n : ℕ) → pos n *ℤ pos 12 ≡ pos (12 * n)
twelve n = omega (arith, signed_arith)

test_of : (base start n day : ℕ) (unit : TimeUnit) → Hits base start unit n day → hits base start unit n day ≡ true
test_of base start n day Hour h = and_both (is_day day) _ (is_day_of day h.0) (eq-eqb _ _ h.1)
test_of base start n day Day h = let e : day ≡ base + n = omega (arith, signed_arith, h.1) in and_both (is_day day) _ (is_day_of day h.0) (eq-eqb _ _ e)
test_of base start n day Week h = let e : day ≡ base + 7 * n = omega (arith, signed_arith, h.1) in and_both (is_day day) _ (is_day_of day h.0) (eq-eqb _ _ e)
test_of base start n day Month h = months_test base n day h
test_of base start n day Year h = months_test base (12 * n) day (subst (λ (z : ℤ). IsMonthsAfter base z day) (twelve n) h)

of_test : (base start n day : ℕ) (unit : TimeUnit) → IsDay base → hits base start unit n day ≡ true → Hits base start unit n day
of_test base start n day Hour b h = (of_is_day day (and_left _ _ h), eqb-true _ _ (and_right _ _ h))
of_test base start n day Day b h = let e = eqb-true _ _ (and_right (is_day day) (day == base + n) h) in (of_is_day day (and_left _ _ h), omega (arith, signed_arith, e))
of_test base start n day Week b h = let e = eqb-true _ _ (and_right (is_day day) (day == base + 7 * n) h) in (of_is_day day (and_left _ _ h), omega (arith, signed_arith, e))
of_test base start n day Month b h = months_hit base n day b h
of_test base start n day Year b h = subst (λ (z : ℤ). IsMonthsAfter base z day) (sym (twelve n)) (months_hit base (12 * n) day b h)

-- no more intervals than hours are needed
few : (base start k day : ℕ) (unit : TimeUnit) → Hits base start unit k day → k < most_intervals
few base start k day Hour h = omega (arith, h.0.1, h.1)
few base start k day Day h = omega (arith, signed_arith, h.0.1, h.1)
few base start k day Week h = omega (arith, signed_arith, h.0.1, h.1)
few base start k day Month h = omega (arith, signed_arith, h.index_is, h.in_years)
few base start k day Year h = omega (arith, signed_arith, h.index_is, h.in_years)

at_least : (k n : ℕ) → k ≤ k * suc n
at_least k n = omega (arith, (let e : k * suc n ≡ k + k * n = grind arith in e))

repeats_test : (base start n day : ℕ) (unit : TimeUnit) → Repeats base start n unit day → any_below (λ k. hits base start unit (k * n) day) most_intervals ≡ true
repeats_test base start zero day unit (k, h) =
    let none : k * 0 ≡ 0 * 0 = omega arith in
    any_true (λ k. hits base start unit (k * 0) day) most_intervals 0 (omega arith) (test_of base start (0 * 0) day unit (subst (λ (x : ℕ). Hits base start unit x day) none h))
repeats_test base start (suc n) day unit (k, h) =
    any_true (λ k. hits base start unit (k * suc n) day) most_intervals k (omega (arith, few base start (k * suc n) day unit h, at_least k n)) (test_of base start (k * suc n) day unit h)

repeats_of : (base start n day : ℕ) (unit : TimeUnit) → IsDay base → any_below (λ k. hits base start unit (k * n) day) most_intervals ≡ true → Repeats base start n unit day
repeats_of base start n day unit b h =
    let r = any_some (λ k. hits base start unit (k * n) day) most_intervals h in
    (r.0, of_test base start (r.0 * n) day unit b r.2)

by_repeater : (base start day : ℕ) (r : Option Repeater) → IsDay base → IsTrue (occurs_by base start r day) ↔ OccursBy base start r day
by_repeater base start day None b = (λ h. eqb-true _ _ h, λ h. eq-eqb _ _ h)
by_repeater base start day (Some r) b = (λ h. repeats_of base start r.n day r.unit b h, λ h. repeats_test base start r.n day r.unit h)

given : (o : Option ℕ) → is_some o ≡ true → (b : ℕ) × (o ≡ Some b)
given None t = absurd (cc)
given (Some b) t = (b, refl)

not_true : (a : Bool) → (a ≡ true → ⊥) → a ≡ false
not_true true never = absurd (never refl)
not_true false never = refl

begins_decided : (s : Stamp) (day : ℕ) → IsDay s.day → IsTrue (begins_on s day) ↔ Begins s day
begins_decided s day b = by_repeater s.day (unwrap_or s.time 0) day s.repeater b

-- the last number that passes
last_of : (p : ℕ → Bool) (n k : ℕ) → k < n → p k ≡ true → ((j : ℕ) → k < j → j < n → p j ≡ true → ⊥) → last_below p n ≡ Some k
unfolding last_below
last_of p zero k lt h later = absurd (omega (arith, lt))
last_of p (suc n) k lt h later = elim (below_cases k n lt) [
  | inl e ↦ let t : p n ≡ true = subst (λ (x : ℕ). p x ≡ true) e h in rw t (ap (λ (x : ℕ). Some x) (sym e))
  | inr l ↦ let f : p n ≡ false = not_true (p n) (later n l (omega arith)) in rw f (last_of p n k l h (λ j gt lt pass. later j gt (omega (arith, lt)) pass))
]

of_last : (p : ℕ → Bool) (n k : ℕ) → last_below p n ≡ Some k → (k < n) × (p k ≡ true) × ((j : ℕ) → k < j → j < n → p j ≡ true → ⊥)
unfolding last_below
of_last p zero k h = absurd (cc)
of_last p (suc n) k h = elim (cases_Bool (p n)) [
  | inl t ↦
      let e : Some n ≡ Some k = rw t at h in
      let same : n ≡ k = same_Some n k e in
      (omega (arith, same), subst (λ (x : ℕ). p x ≡ true) same t, λ j gt lt pass. omega (arith, same, gt, lt))
  | inr f ↦
      let e : last_below p n ≡ Some k = rw f at h in
      let r = of_last p n k e in (
        omega (arith, r.0),
        r.1,
        λ j gt lt pass. elim (below_cases j n lt) [
          | inl is ↦ true≢false (sym (subst (λ (x : ℕ). p x ≡ true) is pass) ∙ f)
          | inr less ↦ r.2 j gt less pass
        ],
      )
]

some_last : (p : ℕ → Bool) (n k : ℕ) → k < n → p k ≡ true → is_some (last_below p n) ≡ true
unfolding last_below
some_last p zero k lt h = absurd (omega (arith, lt))
some_last p (suc n) k lt h = elim (cases_Bool (p n)) [
  | inl t ↦ rw t refl
  | inr f ↦ rw f (elim (below_cases k n lt) [
    | inl is ↦ absurd (true≢false (sym (subst (λ (x : ℕ). p x ≡ true) is h) ∙ f))
    | inr less ↦ some_last p n k less h
  ])
]

-- copies
holds_of : (s : Stamp) (last day b : ℕ) → IsDay s.day → HoldsCopy s last day b → holds_copy s last day b ≡ true
holds_of s last day b real h = and_both (begins_on s b) (nat_le (day + s.day) (b + last)) ((begins_decided s b real).1 h.0) (le_true _ _ h.2)

of_holds : (s : Stamp) (last day b : ℕ) → IsDay s.day → b ≤ day → holds_copy s last day b ≡ true → HoldsCopy s last day b
of_holds s last day b real le h = ((begins_decided s b real).0 (and_left _ _ h), le, true_le _ _ (and_right (begins_on s b) _ h))

one_start : (s : Stamp) (last day begins : ℕ) (t : Bool) → (nat_le s.day day && nat_le day last) ≡ t → (if t then Some s.day else None) ≡ Some begins → IsStartIn One s last day begins
one_start s last day begins true is e = (sym (same_Some s.day begins e), true_le _ _ (and_left _ _ is), true_le _ _ (and_right (nat_le s.day day) _ is))
one_start s last day begins false is e = absurd (cc)

two_start : (s : Stamp) (last day begins : ℕ) → IsDay s.day → (t : Bool) → is_day day ≡ t → (if t then last_below (holds_copy s last day) (day + 1) else None) ≡ Some begins → IsStartIn Two s last day begins
two_start s last day begins real true is e =
    let r = of_last (holds_copy s last day) (day + 1) begins e in (
      of_is_day day is,
      of_holds s last day begins real (omega (arith, r.0)) r.1,
      λ other h. elim (cases_lt begins other) [
        | inl more ↦ absurd (r.2 other more (omega (arith, h.1)) (holds_of s last day other real h))
        | inr le ↦ le
      ],
    )
two_start s last day begins real false is e = absurd (cc)

start_decided : (p : Profile) (s : Stamp) (last day begins : ℕ) → IsDay s.day → IsStartIn p s last day begins ↔ (start_in p s last day ≡ Some begins)
start_decided One s last day begins real = (
  λ h. let t : (nat_le s.day day && nat_le day last) ≡ true = and_both _ _ (le_true _ _ h.1) (le_true _ _ h.2) in rw t (ap (λ (x : ℕ). Some x) (sym h.0)),
  λ e. one_start s last day begins (nat_le s.day day && nat_le day last) refl e,
)
start_decided Two s last day begins real = (
  λ h.
      let t : is_day day ≡ true = is_day_of day h.0 in
      let held : HoldsCopy s last day begins = h.1 in
      rw t (last_of (holds_copy s last day) (day + 1) begins (omega (arith, held.1)) (holds_of s last day begins real held)
      (λ j gt lt pass. omega (arith, h.2 j (of_holds s last day j real (omega (arith, lt)) pass), gt))),
  λ e. two_start s last day begins real (is_day day) refl e,
)

in_range : (p : Profile) (s : Stamp) (last day : ℕ) → IsDay s.day → IsTrue (is_some (start_in p s last day)) ↔ OccursInRange p s last day
in_range One s last day real = (
  λ t. let r = given (start_in One s last day) t in let h = (start_decided One s last day r.0 real).1 r.1 in (h.1, h.2),
  λ h. ap is_some ((start_decided One s last day s.day real).0 (refl, h.0, h.1)),
)
in_range Two s last day real = (
  λ t. let r = given (start_in Two s last day) t in let h = (start_decided Two s last day r.0 real).1 r.1 in (h.0, (r.0, h.1)),
  λ h.
      let held : HoldsCopy s last day h.1.0 = h.1.1 in
      let t : is_day day ≡ true = is_day_of day h.0 in
      rw t (some_last (holds_copy s last day) (day + 1) h.1.0 (omega (arith, held.1)) (holds_of s last day h.1.0 real held)),
)

by_last : (p : Profile) (s : Stamp) (last : Option (ℕ × Option ℕ)) (day : ℕ) → IsDay s.day → IsTrue (occurs_in p s last day) ↔ OccursOn p s last day
by_last p s None day b = begins_decided s day b
by_last p s (Some last) day b = in_range p s last.0 day b

pub occurs_is_decided : (p : Profile) (s : Stamp) (day : ℕ) → IsDay s.day → IsTrue (occurs p s day) ↔ Occurs p s day
unfolding occurs
occurs_is_decided p s day b = by_last p s s.last day b

same_truth : (a b : Bool) → (a ≡ true → b ≡ true) → (b ≡ true → a ≡ true) → a ≡ b
same_truth true b f g = sym (f refl)
same_truth false true f g = absurd (let e = g refl in cc)
same_truth false false f g = refl

-- what tells the same is the same test
pub decided_same : (p : Profile) (s : Stamp) (day : ℕ) (found : Bool) → IsDay s.day → IsTrue found ↔ Occurs p s day → found ≡ occurs p s day
decided_same p s day found b h =
    let d = occurs_is_decided p s day b in
    same_truth found (occurs p s day) (λ t. d.1 (h.0 t)) (λ t. h.1 (d.0 t))

-- what finds the same is the same function
same_found : (P : ℕ → Type 0) (found computed : Option ℕ) → ((b : ℕ) → P b ↔ (computed ≡ Some b)) → IfSome found P → (found ≡ None → (b : ℕ) → P b → ⊥) → found ≡ computed
same_found P (Some b) computed is h none = sym ((is b).0 h)
same_found P None None is h none = refl
same_found P None (Some b) is h none = absurd (none refl b ((is b).1 refl))

by_start : (p : Profile) (s : Stamp) (last : Option (ℕ × Option ℕ)) (day begins : ℕ) → IsDay s.day → IsStartOf p s last day begins ↔ (start_of p s last day ≡ Some begins)
by_start p s None day begins real = (λ h. absurd h, λ e. absurd (cc))
by_start p s (Some last) day begins real = start_decided p s last.0 day begins real

pub start_is_decided : StartIsDecided
unfolding range_start
start_is_decided p s day begins real = by_start p s s.last day begins real

pub start_same : (p : Profile) (s : Stamp) (day : ℕ) (found : Option ℕ) → IsDay s.day → IfSome found (IsRangeStart p s day) → (found ≡ None → (b : ℕ) → IsRangeStart p s day b → ⊥) → found ≡ range_start p s day
start_same p s day found real h none = same_found (IsRangeStart p s day) found (range_start p s day) (λ b. start_is_decided p s day b real) h none

-- the first number that passes
to_first : (p : ℕ → Bool) (many from j : ℕ) → from ≤ j → j < from + many → p j ≡ true → ((i : ℕ) → from ≤ i → i < j → p i ≡ true → ⊥) → first_passing p many from ≡ Some j
unfolding first_passing
to_first p zero from j low high h before = absurd (omega (arith, low, high))
to_first p (suc many) from j low high h before = elim (cases_lt from j) [
  | inl lt ↦
      let f : p from ≡ false = not_true (p from) (before from (omega arith) lt) in
      rw f (to_first p many (from + 1) j (omega (arith, lt)) (omega (arith, high)) h (λ i le less. before i (omega (arith, le)) less))
  | inr ge ↦
      let same : from ≡ j = omega (arith, low, ge) in
      let t : p from ≡ true = subst (λ (x : ℕ). p x ≡ true) (sym same) h in
      rw t (ap (λ (x : ℕ). Some x) same)
]

of_first : (p : ℕ → Bool) (many from j : ℕ) → first_passing p many from ≡ Some j → (from ≤ j) × (p j ≡ true) × ((i : ℕ) → from ≤ i → i < j → p i ≡ true → ⊥)
unfolding first_passing
of_first p zero from j h = absurd (cc)
of_first p (suc many) from j h = elim (cases_Bool (p from)) [
  | inl t ↦
      let e : Some from ≡ Some j = rw t at h in
      let same : from ≡ j = same_Some from j e in
      (omega (arith, same), subst (λ (x : ℕ). p x ≡ true) same t, λ i le lt pass. omega (arith, same, le, lt))
  | inr f ↦
      let e : first_passing p many (from + 1) ≡ Some j = rw f at h in
      let r = of_first p many (from + 1) j e in (
        omega (arith, r.0),
        r.1,
        λ i le lt pass. elim (cases_lt from i) [
          | inl more ↦ r.2 i (omega (arith, more)) lt pass
          | inr less ↦
              let same : i ≡ from = omega (arith, le, less) in
              true≢false (sym (subst (λ (x : ℕ). p x ≡ true) same pass) ∙ f)
        ],
      )
]

pub next_is_decided : NextIsDecided
unfolding next_after
next_is_decided s day next real = (
  λ h.
      let in_years : IsDay next = begins_day s next real h.holds in
      to_first (begins_on s) 3_652_059 (day + 1) next h.late (omega (arith, in_years.1)) ((begins_decided s next real).1 h.holds)
      (λ i le lt pass. omega (arith, h.first i ((begins_decided s i real).0 pass) le, lt)),
  λ e.
      let r = of_first (begins_on s) 3_652_059 (day + 1) next e in
      record {
        holds = (begins_decided s next real).0 r.1;
        late = r.0;
        first = λ e h le. elim (cases_lt e next) [
          | inl lt ↦ absurd (r.2 e le lt ((begins_decided s e real).1 h))
          | inr ge ↦ ge
        ];
      },
)

pub next_same : (s : Stamp) (day : ℕ) (found : Option ℕ) → IsDay s.day → IfSome found (IsNextAfter s day) → (found ≡ None → HasNoneFrom (Begins s) (day + 1)) → found ≡ next_after s day
next_same s day found real h none =
    same_found (IsNextAfter s day) found (next_after s day) (λ b. next_is_decided s day b real) h (λ is b f. none is b f.holds f.late)
