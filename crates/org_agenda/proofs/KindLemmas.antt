-- The tests of kinds by the rule's own words.
use Rattle.std.proofs.Common.{◌≡◌, ◌≢◌, ◌<◌, ◌≤◌, ◌+◌, ◌-◌, ◌∙◌, ℕ, Bool, true, false, refl, sym, ap, arith, inl, inr, eq-eqb, subst}
use Rattle.std.specs.Prelude.{◌==◌, ◌&&◌, ◌||◌, not, Option, None, Some, is_none, is_some, nat_le, nat_lt, unwrap_or}
use Rattle.std.proofs.Math.Nat.{div-eq_of_lt-le}
use Rattle.std.proofs.lemmas.Bool.{eqb-true, ne_eqb, and_from, or_cases, not_from_false}
use Rattle.std.proofs.lemmas.Bool.Decides.{nat_tests}
use Rattle.org_base.specs.declared.profile.Profile.{Profile}
use Rattle.org_base.specs.declared.profile.Profile.TheVariants.{One, Two}
use Rattle.org_cal.specs.Days.{IsDay}
use Rattle.org_cal.specs.declared.unit.Unit.{Unit as TimeUnit}
use Rattle.org_cal.specs.declared.unit.Unit.TheVariants.{Hour, Day, Week, Month, Year}
use Rattle.org_repeat.specs.Decided.{next_after, occurs, range_start}
use Rattle.org_repeat.specs.Occurs.{OccursOn}
use Rattle.org_repeat.specs.Starts.{IsNextAfter}
use Rattle.org_repeat.proofs.DecidedLemmas.{next_is_decided, occurs_is_decided}
use Rattle.org_stamp.specs.declared.mark.Delay.{Delay}
use Rattle.org_stamp.specs.declared.stamp.Stamp.{Stamp}
use Rattle.org_agenda.specs.Days.{due_day, is_due, occurs_delayed, occurs_later}
use Rattle.org_index.specs.Delays.{days_in, delay_or}
use Rattle.org_agenda.specs.declared.source.HeadingStamp.{HeadingStamp}
use Rattle.org_agenda.specs.declared.row.RowKind.TheVariants.{Listed, OnDay, InRange, OnSchedule, LateSchedule, OnDeadline, Warning, LateDeadline}
use Rattle.org_agenda.specs.Rules.{ComesNear, DeadlinesWarnAhead, IsDays, IsDelayOr, IsDueToday, IsLater, IsOnSchedule, IsRangeOn, IsWarnedOf, KindsAreByRule}
use Rattle.org_agenda.proofs.RuleLemmas.{delays}

left : (a b : Bool) → (a && b) ≡ true → a ≡ true
left true b h = refl
left false b h = h

right : (a b : Bool) → (a && b) ≡ true → b ≡ true
right true b h = h
right false b h = absurd cc

true_le : (a b : ℕ) → nat_le a b ≡ true → a ≤ b
true_le a b h = grind (arith, nat_tests)

le_true : (a b : ℕ) → a ≤ b → nat_le a b ≡ true
le_true a b h = grind (arith, nat_tests)

true_lt : (a b : ℕ) → nat_lt a b ≡ true → a < b
true_lt a b h = grind (arith, nat_tests)

lt_true : (a b : ℕ) → a < b → nat_lt a b ≡ true
lt_true a b h = grind (arith, nat_tests)

-- so many days are the definition's
days_only : (unit : TimeUnit) (n k : ℕ) → IsDays unit n k → k ≡ days_in unit n
days_only Hour n k h = sym (div-eq_of_lt-le 24 (omega (arith, h.0)) (omega (arith, h.1)))
days_only Day n k h = h
days_only Week n k h = h
days_only Month n k h = sym (div-eq_of_lt-le 10 (omega (arith, h.0)) (omega (arith, h.1)))
days_only Year n k h = sym (div-eq_of_lt-le 100 (omega (arith, h.0)) (omega (arith, h.1)))

delay_there : (other : ℕ) (o : Option Delay) → IsDelayOr other o (delay_or other o)
delay_there other None = refl
delay_there other (Some x) = delays x.unit x.n

delay_only : (other k : ℕ) (o : Option Delay) → IsDelayOr other o k → k ≡ delay_or other o
delay_only other k None h = h
delay_only other k (Some x) h = days_only x.unit x.n k h

not_same : (a b : ℕ) → not (a == b) ≡ true → a ≢ b
not_same a b h e = let same : (a == b) ≡ true = eq-eqb a b e in absurd (cc)

differ : (a b : ℕ) → a ≢ b → not (a == b) ≡ true
differ a b ne = not_from_false (a == b) (ne_eqb a b ne)

or_first : (a b : Bool) → a ≡ true → (a || b) ≡ true
or_first a b h = rw h refl

or_second : (a b : Bool) → b ≡ true → (a || b) ≡ true
or_second true b h = refl
or_second false b h = h

later : (p : Profile) (first_only : Bool) (s : Stamp) (n d : ℕ) → IsDay s.day → occurs_later p first_only s n d ≡ true → IsLater p first_only s n d
later p true s n d base h = elim (or_cases (d == s.day + n) (not (d == s.day) && occurs p s d) h) [
  | inl at ↦ inl (eqb-true d (s.day + n) at)
  | inr on ↦ inr (not_same d s.day (left _ _ on), (occurs_is_decided p s d base).0 (right _ _ on))
]
later p false s n d base h =
    let before : n < d = true_lt n d (left _ _ h) in
    (d - n, omega (arith, before), (occurs_is_decided p s (d - n) base).0 (right _ _ h), omega (arith, before))

later_back : (p : Profile) (first_only : Bool) (s : Stamp) (n d : ℕ) → IsDay s.day → IsLater p first_only s n d → occurs_later p first_only s n d ≡ true
later_back p true s n d base (inl e) = or_first (d == s.day + n) (not (d == s.day) && occurs p s d) (eq-eqb d (s.day + n) e)
later_back p true s n d base (inr h) = or_second (d == s.day + n) (not (d == s.day) && occurs p s d) (and_from _ _ (differ d s.day h.0) ((occurs_is_decided p s d base).1 h.1))
later_back p false s n d base h =
    let is : d - n ≡ h.0 = omega (arith, h.3) in
    and_from _ _ (lt_true n d (omega (arith, h.1, h.3))) (subst (λ (x : ℕ). occurs p s x ≡ true) (sym is) ((occurs_is_decided p s h.0 base).1 h.2))

scheduled : (p : Profile) (s : Stamp) (o : Option Delay) (d : ℕ) → IsDay s.day → occurs_delayed p s o d ≡ true → IsOnSchedule p s o d
scheduled p s None d base h = (occurs_is_decided p s d base).0 h
scheduled p s (Some x) d base h = (days_in x.unit x.n, delays x.unit x.n, later p x.first_only s (days_in x.unit x.n) d base h)

scheduled_back : (p : Profile) (s : Stamp) (o : Option Delay) (d : ℕ) → IsDay s.day → IsOnSchedule p s o d → occurs_delayed p s o d ≡ true
scheduled_back p s None d base h = (occurs_is_decided p s d base).1 h
scheduled_back p s (Some x) d base h =
    later_back p x.first_only s (days_in x.unit x.n) d base (subst (λ (n : ℕ). IsLater p x.first_only s n d) (days_only x.unit x.n h.0 h.1) h.2)

-- a range has a day exactly where the day shows a copy of it
unranged : (p : Profile) (s : Stamp) (d : ℕ) → s.last ≡ None → is_some (range_start p s d) ≡ false
unfolding range_start
unranged p s d e = rw e refl

ranged : (p : Profile) (s : Stamp) (last : ℕ × Option ℕ) (d : ℕ) → s.last ≡ Some last → is_some (range_start p s d) ≡ occurs p s d
unfolding range_start occurs
ranged p s last d e = rw e refl

range_on : (p : Profile) (s : Stamp) (o : Option (ℕ × Option ℕ)) (d : ℕ) → IsDay s.day → s.last ≡ o → is_some (range_start p s d) ≡ true → IsRangeOn p s d
range_on p s None d base e h = let none : is_some (range_start p s d) ≡ false = unranged p s d e in absurd cc
range_on p s (Some last) d base e h =
    (last, e, subst (λ (o : Option (ℕ × Option ℕ)). OccursOn p s o d) e ((occurs_is_decided p s d base).0 (sym (ranged p s last d e) ∙ h)))

range_back : (p : Profile) (s : Stamp) (d : ℕ) → IsDay s.day → IsRangeOn p s d → is_some (range_start p s d) ≡ true
range_back p s d base h = ranged p s h.0 d h.1 ∙ (occurs_is_decided p s d base).1 (subst (λ (o : Option (ℕ × Option ℕ)). OccursOn p s o d) (sym h.1) h.2)

none_is : (o : Option (ℕ × Option ℕ)) → is_none o ≡ true → o ≡ None
none_is None h = refl
none_is (Some x) h = absurd cc

due_parts : (s : HeadingStamp) (t d : ℕ) → is_due s t d ≡ true → IsDueToday s t d
due_parts s t d h = (eqb-true d t (left _ _ h), right _ _ h)

due : (s : HeadingStamp) (t d : ℕ) → IsDueToday s t d → is_due s t d ≡ true
due s t d h = and_from _ _ (eq-eqb d t h.0) h.1

-- the day of which a deadline warns
next_there : (s : Stamp) (t : ℕ) (o : Option ℕ) → IsDay s.day → next_after s t ≡ o → t < unwrap_or o 0 → IsNextAfter s t (unwrap_or o 0)
next_there s t None base e h = absurd (omega (arith, h))
next_there s t (Some day) base e h = (next_is_decided s t day base).1 e

warned_there : (p : Profile) (s : Stamp) (t : ℕ) → IsDay s.day → t < due_day p s t → IsWarnedOf p s t (due_day p s t)
warned_there One s t base h = refl
warned_there Two s t base h = next_there s t (next_after s t) base refl h

warned_only : (p : Profile) (s : Stamp) (t day : ℕ) → IsDay s.day → IsWarnedOf p s t day → due_day p s t ≡ day
warned_only One s t day base h = sym h
warned_only Two s t day base h = ap (λ (o : Option ℕ). unwrap_or o 0) ((next_is_decided s t day base).0 h)

near : (p : Profile) (s : HeadingStamp) (t : ℕ) → IsDay s.stamp.day → due_day p s.stamp t ≤ t + delay_or 14 s.stamp.delay → t < due_day p s.stamp t → ComesNear p s t
near p s t base le lt = (due_day p s.stamp t, delay_or 14 s.stamp.delay, warned_there p s.stamp t base lt, delay_there 14 s.stamp.delay, lt, le)

near_back : (p : Profile) (s : HeadingStamp) (t : ℕ) → IsDay s.stamp.day → ComesNear p s t → (t < due_day p s.stamp t) × (due_day p s.stamp t ≤ t + delay_or 14 s.stamp.delay)
near_back p s t base h =
    let day = warned_only p s.stamp t h.0 base h.2 in
    let days = delay_only 14 h.1 s.stamp.delay h.3 in
    (omega (arith, day, h.4), omega (arith, day, days, h.5))

pub kinds : KindsAreByRule
kinds p Listed s t d base = (λ h. absurd cc, λ h. absurd h)
kinds p OnDay s t d base = (
  λ h. (none_is s.stamp.last (left _ _ h), (occurs_is_decided p s.stamp d base).0 (right _ _ h)),
  λ h. and_from _ _ (ap is_none h.0) ((occurs_is_decided p s.stamp d base).1 h.1),
)
kinds p InRange s t d base = (λ h. range_on p s.stamp s.stamp.last d base refl h, λ h. range_back p s.stamp d base h)
kinds p OnSchedule s t d base = (λ h. scheduled p s.stamp s.stamp.delay d base h, λ h. scheduled_back p s.stamp s.stamp.delay d base h)
kinds p LateSchedule s t d base = (
  λ h. (due_parts s t d (left _ _ h), (delay_or 0 s.stamp.delay, delay_there 0 s.stamp.delay, true_lt _ _ (right _ _ h))),
  λ h. let n : h.1.0 ≡ delay_or 0 s.stamp.delay = delay_only 0 h.1.0 s.stamp.delay h.1.1 in
      and_from _ _ (due s t d h.0) (lt_true _ _ (omega (arith, n, h.1.2))),
)
kinds p OnDeadline s t d base = occurs_is_decided p s.stamp d base
kinds p Warning s t d base = (
  λ h. (due_parts s t d (left _ _ (left _ _ h)), near p s t base (true_le _ _ (right _ _ (left _ _ h))) (true_lt _ _ (right _ _ h))),
  λ h. let soon = near_back p s t base h.1 in
      and_from _ _ (and_from _ _ (due s t d h.0) (le_true _ _ soon.1)) (lt_true _ _ soon.0),
)
kinds p LateDeadline s t d base = (
  λ h. (due_parts s t d (left _ _ h), true_lt _ _ (right _ _ h)),
  λ h. and_from _ _ (due s t d h.0) (lt_true _ _ h.1),
)

-- fourteen days, where the stamp says no other number
pub warn_ahead : DeadlinesWarnAhead
warn_ahead p s t day opened plain base of =
    let is : due_day p s.stamp t ≡ day = warned_only p s.stamp t day base of in
    let days : delay_or 14 s.stamp.delay ≡ 14 = ap (delay_or 14) plain in (
      λ h. let soon = near_back p s t base ((kinds p Warning s t t base).0 h).1 in (omega (arith, is, soon.0), omega (arith, is, days, soon.1)),
      λ h. (kinds p Warning s t t base).1 ((refl, opened), near p s t base (omega (arith, is, days, h.1)) (omega (arith, is, h.0))),
    )
