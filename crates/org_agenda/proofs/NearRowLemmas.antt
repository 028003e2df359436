-- A stamp that gives a row on a day is near the days around it.
use Rattle.std.proofs.Common.{◌≡◌, ◌∙◌, ℕ, suc, ◌+◌, ◌-◌, ◌<◌, ◌≤◌, Bool, true, false, ◌&&◌, ◌||◌, List, [], ◌∷◌, ◌++◌, inl, inr, sym, ap, ap₂, refl, subst, true≢false, arith}
use Rattle.std.specs.Prelude.{Option, None, Some, is_none, is_some, filter, nat_lt, nat_le, not, ◌==◌, unwrap_or, if◌then◌else◌, slice_index_or}
use Rattle.std.specs.List.{All, flat_map}
use Rattle.std.proofs.lemmas.Bool.{cases_Bool, cases_lt, and_parts, or_cases, lt-ltb, le-ltb}
use Rattle.std.proofs.lemmas.Bool.Decides.{nat_tests}
use Rattle.std.proofs.lemmas.List.Concat.{flat_map-cons}
use Rattle.org_base.specs.declared.profile.Profile.{Profile}
use Rattle.org_base.specs.declared.profile.Profile.TheVariants.{One, Two}
use Rattle.org_cal.specs.Days.{IsDay}
use Rattle.org_cal.specs.declared.unit.Unit.{Unit as TimeUnit}
use Rattle.org_cal.specs.declared.unit.Unit.TheVariants.{Hour, Day, Week, Month, Year}
use Rattle.org_index.specs.Delays.{days_in, delay_or}
use Rattle.org_index.specs.Reaches.{reach_of, last_day, repeats}
use Rattle.org_index.specs.Near.{lies_in, touches, warns}
use Rattle.org_index.specs.declared.reach.Reach.{Reach}
use Rattle.org_repeat.specs.Decided.{next_after, occurs, range_start}
use Rattle.org_repeat.proofs.DecidedWords.{occurs_in, start_of}
use Rattle.org_repeat.specs.Occurs.{Begins, HoldsCopy, OccursBy, OccursOn, Repeats}
use Rattle.org_repeat.proofs.DecidedLemmas.{next_is_decided, occurs_is_decided}
use Rattle.org_repeat.proofs.OrderLemmas.{base_first}
use Rattle.org_stamp.specs.declared.mark.Delay.{Delay}
use Rattle.org_stamp.specs.declared.mark.Repeater.{Repeater}
use Rattle.org_stamp.specs.declared.stamp.Stamp.{Stamp}
use Rattle.org_agenda.specs.Days.{by_start, day_rows, due_day, is_due, is_shown, kind_rows, occurs_delayed, occurs_later, role_rows, source_rows}
use Rattle.org_agenda.specs.Lists.{Ranked, in_order}
use Rattle.org_agenda.specs.Near.{IsSound, NearGiveAll, RowsAreNear, is_near, is_planned, is_reminding}
use Rattle.org_agenda.specs.declared.row.RowKind.{RowKind}
use Rattle.org_agenda.specs.declared.row.RowKind.TheVariants.{OnDay, InRange, OnSchedule, LateSchedule, OnDeadline, Warning, LateDeadline}
use Rattle.org_entry.specs.declared.active.Role.{Role}
use Rattle.org_entry.specs.declared.active.Role.TheVariants.{Plain, Scheduled, Deadline}
use Rattle.org_agenda.specs.declared.source.HeadingStamp.{HeadingStamp}

le_is : (a b : ℕ) → a ≤ b → nat_le a b ≡ true
le_is a b h = grind (arith, nat_tests)

le_of : (a b : ℕ) → nat_le a b ≡ true → a ≤ b
le_of a b h = grind (arith, nat_tests)

lt_of : (a b : ℕ) → nat_lt a b ≡ true → a < b
lt_of a b h = grind (arith, nat_tests)

eq_of : (a b : ℕ) → (a == b) ≡ true → a ≡ b
eq_of a b h = grind (arith, nat_tests)

both : (a b : Bool) → a ≡ true → b ≡ true → (a && b) ≡ true
both true b h k = k
both false b h k = absurd (true≢false (sym h))

left : (a b : Bool) → a ≡ true → (a || b) ≡ true
left true b h = refl
left false b h = absurd (true≢false (sym h))

right : (a b : Bool) → b ≡ true → (a || b) ≡ true
right true b h = refl
right false b h = h

-- what would make the other true is false where that is
unless : (a b : Bool) → (a ≡ true → b ≡ true) → b ≡ false → a ≡ false
unless false b f h = refl
unless true b f h = absurd (true≢false (sym (f refl) ∙ h))

-- no occurrence lies before the base
no_earlier : (base start n : ℕ) (unit : TimeUnit) (day : ℕ) → IsDay base → Repeats base start n unit day → base ≤ day
no_earlier base start n Hour day is r = omega (arith, r.1.1)
no_earlier base start n Day day is r = (base_first base 0 n 0 Day is (omega arith) (omega arith)).first day r (omega arith)
no_earlier base start n Week day is r = (base_first base 0 n 0 Week is (omega arith) (omega arith)).first day r (omega arith)
no_earlier base start n Month day is r = (base_first base 0 n 0 Month is (omega arith) (omega arith)).first day r (omega arith)
no_earlier base start n Year day is r = (base_first base 0 n 0 Year is (omega arith) (omega arith)).first day r (omega arith)

no_earlier_by : (base start : ℕ) (repeater : Option Repeater) (day : ℕ) → IsDay base → OccursBy base start repeater day → base ≤ day
no_earlier_by base start None day is o = omega (arith, o)
no_earlier_by base start (Some r) day is o = no_earlier base start r.n r.unit day is o

no_earlier_begin : (s : Stamp) (day : ℕ) → IsDay s.day → Begins s day → s.day ≤ day
no_earlier_begin s day is o = no_earlier_by s.day (unwrap_or s.time 0) s.repeater day is o

-- the day of which a deadline warns, where it is still to come, is no earlier than the base
next_late : (s : Stamp) (today : ℕ) (next : Option ℕ) → next_after s today ≡ next → IsDay s.day → today < unwrap_or next 0 → s.day ≤ unwrap_or next 0
next_late s today None is real late = absurd (omega (arith, late))
next_late s today (Some day) is real late = no_earlier_begin s day real ((next_is_decided s today day real).1 is).holds

due_late : (p : Profile) (s : Stamp) (today : ℕ) → IsDay s.day → today < due_day p s today → s.day ≤ due_day p s today
due_late One s today real late = omega arith
due_late Two s today real late = next_late s today (next_after s today) refl real late

-- what touches the days
module _ (from to : ℕ) (e : Reach) where
  abbrev some_day : Bool
  some_day = nat_le e.first to && (e.repeats || nat_le from e.last)

  by_again : e.first ≤ to → e.repeats ≡ true → touches from to e ≡ true
  by_again high again = left some_day (lies_in from to e.delayed) (both (nat_le e.first to) (e.repeats || nat_le from e.last) (le_is e.first to high) (left e.repeats (nat_le from e.last) again))

  by_reach : e.first ≤ to → from ≤ e.last → touches from to e ≡ true
  by_reach high reach = left some_day (lies_in from to e.delayed) (both (nat_le e.first to) (e.repeats || nat_le from e.last) (le_is e.first to high) (right e.repeats (nat_le from e.last) (le_is from e.last reach)))

  by_delay : from ≤ e.delayed → e.delayed ≤ to → touches from to e ≡ true
  by_delay low high = right some_day (lies_in from to e.delayed) (both (nat_le from e.delayed) (nat_le e.delayed to) (le_is from e.delayed low) (le_is e.delayed to high))

own_in : (day : ℕ) (last : Option (ℕ × Option ℕ)) → day ≤ last_day day last
own_in day None = omega arith
own_in day (Some last) = elim (cases_lt day last.0) [
  | inl behind ↦ let ends : last_day day (Some last) ≡ last.0 = ap (λ b. if b then last.0 else day) (lt-ltb day last.0 behind) in omega (arith, behind, ends)
  | inr not_behind ↦ let ends : last_day day (Some last) ≡ day = ap (λ b. if b then last.0 else day) (le-ltb day last.0 not_behind) in omega (arith, ends)
]

last_in : (day : ℕ) (last : ℕ × Option ℕ) (d : ℕ) → day ≤ d → d ≤ last.0 → d ≤ last_day day (Some last)
last_in day last d low high = elim (cases_lt day last.0) [
  | inl behind ↦ let ends : last_day day (Some last) ≡ last.0 = ap (λ b. if b then last.0 else day) (lt-ltb day last.0 behind) in omega (arith, high, ends)
  | inr not_behind ↦ let ends : last_day day (Some last) ≡ day = ap (λ b. if b then last.0 else day) (le-ltb day last.0 not_behind) in omega (arith, low, high, ends, not_behind)
]

-- a stamp with a repeater that is no range repeats in both profiles
single_repeats : (p : Profile) (s : Stamp) (r : Repeater) → s.repeater ≡ Some r → s.last ≡ None → repeats p s ≡ true
single_repeats One s r again single = ap₂ (λ a b. is_some a && is_none b) again single
single_repeats Two s r again single = ap is_some again

-- a day that shows a copy of a range is one on which it occurs
copy_occurs : (p : Profile) (s : Stamp) (last : Option (ℕ × Option ℕ)) (day : ℕ) → is_some (start_of p s last day) ≡ true → occurs_in p s last day ≡ true
copy_occurs p s None day h = absurd (true≢false (sym h))
copy_occurs p s (Some last) day h = h

module _ (p : Profile) (s : Stamp) (from to : ℕ) (real : IsDay s.day) where
  abbrev Touches : Type 0
  Touches = touches from to (reach_of p s) ≡ true

  own_touches : from ≤ s.day → s.day ≤ to → Touches
  own_touches low high = let own : s.day ≤ last_day s.day s.last = own_in s.day s.last in by_reach from to (reach_of p s) high (omega (arith, low, own))

  written_touches : (last : ℕ × Option ℕ) (day : ℕ) → s.last ≡ Some last → from ≤ day → day ≤ to → s.day ≤ day → day ≤ last.0 → Touches
  written_touches last day is low high begun within =
      let there : day ≤ last_day s.day s.last = subst (λ (l : Option (ℕ × Option ℕ)). day ≤ last_day s.day l) (sym is) (last_in s.day last day begun within) in
      by_reach from to (reach_of p s) (omega (arith, begun, high)) (omega (arith, low, there))

  again_touches : (r : Repeater) → s.repeater ≡ Some r → s.last ≡ None → s.day ≤ to → Touches
  again_touches r again single high = by_again from to (reach_of p s) high (single_repeats p s r again single)

  -- an occurrence lies in the days
  begin_touches : (repeater : Option Repeater) (day : ℕ) → s.repeater ≡ repeater → s.last ≡ None → s.day ≤ day → from ≤ day → day ≤ to → OccursBy s.day (unwrap_or s.time 0) repeater day → Touches
  begin_touches None day is single begun low high at = own_touches (omega (arith, at, low)) (omega (arith, begun, high))
  begin_touches (Some r) day is single begun low high o = again_touches r is single (omega (arith, begun, high))

  -- a copy that begins on a day holds one of the days
  copy_touches : (q : Profile) (repeater : Option Repeater) (last : ℕ × Option ℕ) (day begins : ℕ) → p ≡ q → q ≡ Two → s.repeater ≡ repeater → s.last ≡ Some last → s.day ≤ begins → from ≤ day → day ≤ to →
      OccursBy s.day (unwrap_or s.time 0) repeater begins → begins ≤ day → day + s.day ≤ begins + last.0 → Touches
  copy_touches q None last day begins same two is there late low high at begun whole = written_touches last day there low high (omega (arith, late, begun)) (omega (arith, at, whole))
  copy_touches q (Some r) last day begins same two is there late low high o begun whole =
      by_again from to (reach_of p s) (omega (arith, late, begun, high)) (ap (λ (x : Profile). repeats x s) (same ∙ two) ∙ ap is_some is)

  on_touches : (q : Profile) (last : Option (ℕ × Option ℕ)) (day : ℕ) → p ≡ q → s.last ≡ last → from ≤ day → day ≤ to → OccursOn q s last day → Touches
  on_touches q None day same is low high o = begin_touches s.repeater day refl is (no_earlier_begin s day real o) low high o
  on_touches One (Some last) day same is low high o = written_touches last day is low high o.0 o.1
  on_touches Two (Some last) day same is low high o =
      let begins : ℕ = o.1.0 in
      let held : HoldsCopy s last.0 day begins = o.1.1 in
      copy_touches Two s.repeater last day begins same refl refl is (no_earlier_begin s begins real held.0) low high held.0 held.1 held.2

  pub occurs_touches : (day : ℕ) → from ≤ day → day ≤ to → occurs p s day ≡ true → Touches
  occurs_touches day low high h = on_touches p s.last day refl refl low high ((occurs_is_decided p s day real).0 h)

  range_touches : (day : ℕ) → from ≤ day → day ≤ to → is_some (range_start p s day) ≡ true → Touches
  unfolding occurs range_start
  range_touches day low high h = occurs_touches day low high (copy_occurs p s s.last day h)

  -- an occurrence so many days before lies in the days with its delay
  before_by : (repeater : Option Repeater) (n day : ℕ) → s.repeater ≡ repeater → s.last ≡ None → s.day + delay_or 0 s.delay ≡ s.day + n → n < day → s.day ≤ day - n → from ≤ day → day ≤ to → OccursBy s.day (unwrap_or s.time 0) repeater (day - n) → Touches
  before_by None n day is single delay past begun low high at =
      by_delay from to (reach_of p s) (omega (arith, at, delay, past, low)) (omega (arith, at, delay, past, high))
  before_by (Some r) n day is single delay past begun low high o = again_touches r is single (omega (arith, begun, past, high))

  before_touches : (n day : ℕ) → s.last ≡ None → s.day + delay_or 0 s.delay ≡ s.day + n → n < day → from ≤ day → day ≤ to → occurs p s (day - n) ≡ true → Touches
  before_touches n day single delay past low high h =
      let begun : Begins s (day - n) = subst (λ (l : Option (ℕ × Option ℕ)). OccursOn p s l (day - n)) single ((occurs_is_decided p s (day - n) real).0 h) in
      before_by s.repeater n day refl single delay past (no_earlier_begin s (day - n) real begun) low high begun

  later_touches : (first_only : Bool) (n day : ℕ) → s.last ≡ None → s.day + delay_or 0 s.delay ≡ s.day + n → from ≤ day → day ≤ to → occurs_later p first_only s n day ≡ true → Touches
  later_touches true n day single delay low high h = elim (or_cases (day == s.day + n) (not (day == s.day) && occurs p s day) h) [
    | inl moved ↦ let at : day ≡ s.day + n = eq_of day (s.day + n) moved in by_delay from to (reach_of p s) (omega (arith, at, delay, low)) (omega (arith, at, delay, high))
    | inr other ↦ occurs_touches day low high (and_parts (not (day == s.day)) (occurs p s day) other).1
  ]
  later_touches false n day single delay low high h =
      let t = and_parts (nat_lt n day) (occurs p s (day - n)) h in
      before_touches n day single delay (lt_of n day t.0) low high t.1

  delayed_touches : (delay : Option Delay) (day : ℕ) → s.delay ≡ delay → s.last ≡ None → from ≤ day → day ≤ to → occurs_delayed p s delay day ≡ true → Touches
  delayed_touches None day is single low high h = occurs_touches day low high h
  delayed_touches (Some d) day is single low high h = later_touches d.first_only (days_in d.unit d.n) day single (ap (λ (o : Option Delay). s.day + delay_or 0 o) is) low high h

module _ (p : Profile) (s : HeadingStamp) (from to today day : ℕ) (sound : IsSound s) (low : from ≤ day) (high : day ≤ to) where
  abbrev Near : Type 0
  Near = is_near p from to today s ≡ true

  abbrev Touched : Bool
  Touched = touches from to (reach_of p s.stamp)

  abbrev Warned : Bool
  Warned = is_reminding s && warns from to today (reach_of p s.stamp)

  touched : Touched ≡ true → Near
  touched h = left Touched Warned h

  -- today, of a heading that is open
  pressed : is_planned s.role ≡ true → is_due s today day ≡ true → s.stamp.day ≤ today + delay_or 14 s.stamp.delay → Near
  pressed planned due soon =
      let t = and_parts (day == today) s.owner.is_open due in
      let at : day ≡ today = eq_of day today t.0 in
      right Touched Warned
      (both (is_reminding s) (warns from to today (reach_of p s.stamp)) (both (is_planned s.role) s.owner.is_open planned t.1)
      (both (lies_in from to today) (nat_le (s.stamp.day - delay_or 14 s.stamp.delay) today)
      (both (nat_le from today) (nat_le today to) (le_is from today (omega (arith, at, low))) (le_is today to (omega (arith, at, high))))
      (le_is (s.stamp.day - delay_or 14 s.stamp.delay) today (omega (arith, soon)))))

  on_day : is_shown p OnDay s today day ≡ true → Near
  on_day h = touched (occurs_touches p s.stamp from to sound.day day low high (and_parts (is_none s.stamp.last) (occurs p s.stamp day) h).1)

  in_range : is_shown p InRange s today day ≡ true → Near
  in_range h = touched (range_touches p s.stamp from to sound.day day low high h)

  on_schedule : s.role ≡ Scheduled → is_shown p OnSchedule s today day ≡ true → Near
  on_schedule role h = touched (delayed_touches p s.stamp from to sound.day s.stamp.delay day refl (sound.single role) low high h)

  planned_as : (role : Role) → s.role ≡ role → is_planned role ≡ true → is_planned s.role ≡ true
  planned_as role is h = ap is_planned is ∙ h

  late_schedule : is_planned s.role ≡ true → is_shown p LateSchedule s today day ≡ true → Near
  late_schedule planned h =
      let t = and_parts (is_due s today day) (nat_lt (s.stamp.day + delay_or 0 s.stamp.delay) today) h in
      let late : s.stamp.day + delay_or 0 s.stamp.delay < today = lt_of (s.stamp.day + delay_or 0 s.stamp.delay) today t.1 in
      pressed planned t.0 (omega (arith, late))

  on_deadline : is_shown p OnDeadline s today day ≡ true → Near
  on_deadline h = touched (occurs_touches p s.stamp from to sound.day day low high h)

  warning : is_planned s.role ≡ true → is_shown p Warning s today day ≡ true → Near
  warning planned h =
      let due = due_day p s.stamp today in
      let soon = nat_le due (today + delay_or 14 s.stamp.delay) in
      let t = and_parts (is_due s today day && soon) (nat_lt today due) h in
      let q = and_parts (is_due s today day) soon t.0 in
      let near : due ≤ today + delay_or 14 s.stamp.delay = le_of due (today + delay_or 14 s.stamp.delay) q.1 in
      let behind : s.stamp.day ≤ due = due_late p s.stamp today sound.day (lt_of today due t.1) in
      pressed planned q.0 (omega (arith, near, behind))

  late_deadline : is_planned s.role ≡ true → is_shown p LateDeadline s today day ≡ true → Near
  late_deadline planned h =
      let t = and_parts (is_due s today day) (nat_lt s.stamp.day today) h in
      let late : s.stamp.day < today = lt_of s.stamp.day today t.1 in
      pressed planned t.0 (omega (arith, late))

  module _ (far : is_near p from to today s ≡ false) where
    none : (kind : RowKind) → (is_shown p kind s today day ≡ true → Near) → kind_rows p kind s today day ≡ []
    none kind f = rw (unless (is_shown p kind s today day) (is_near p from to today s) f far) refl

    by_role : (role : Role) → s.role ≡ role → role_rows p role s today day ≡ []
    by_role Plain is = ap₂ (λ a b. a ++ b) (none OnDay on_day) (none InRange in_range)
    by_role Scheduled is = ap₂ (λ a b. a ++ b) (none OnSchedule (on_schedule is)) (none LateSchedule (late_schedule (ap is_planned is)))
    by_role Deadline is =
        ap₂ (λ a b. a ++ b) (none OnDeadline on_deadline)
        (ap₂ (λ a b. a ++ b) (none Warning (warning (ap is_planned is))) (none LateDeadline (late_deadline (ap is_planned is))))

    pub no_rows : source_rows p today day s ≡ []
    unfolding source_rows
    no_rows = by_role s.role refl

pub rows_are_near : RowsAreNear
rows_are_near p s from to today day sound low high far = no_rows p s from to today day sound low high far

-- what a test leaves out may be left out
kept : (f : HeadingStamp → List Ranked) (p : HeadingStamp → Bool) (xs : List HeadingStamp) → All (λ s. p s ≡ false → f s ≡ []) xs → flat_map f (filter p xs) ≡ flat_map f xs
kept f p [] none = refl
kept f p (x ∷ xs) none =
    let more : All (λ s. p s ≡ false → f s ≡ []) xs = λ k d lt. none (suc k) d (omega (arith, lt)) in
    elim (cases_Bool (p x)) [
      | inl yes' ↦ rw yes' (flat_map-cons f x (filter p xs) ∙ ap (λ ys. f x ++ ys) (kept f p xs more) ∙ sym (flat_map-cons f x xs))
      | inr no' ↦ rw no' (kept f p xs more ∙ sym (ap (λ ys. ys ++ flat_map f xs) (none 0 x (omega arith) no')) ∙ sym (flat_map-cons f x xs))
    ]

far_from : (p : Profile) (xs : List HeadingStamp) (from to today day : ℕ) → All IsSound xs → from ≤ day → day ≤ to → All (λ s. is_near p from to today s ≡ false → source_rows p today day s ≡ []) xs
far_from p xs from to today day sound low high = λ k d lt far. rows_are_near p (slice_index_or xs k d) from to today day (sound k d lt) low high far

pub near_give_all : NearGiveAll
unfolding day_rows
near_give_all p sources from to today day sound low high =
    ap (λ rs. by_start (in_order rs)) (kept (source_rows p today day) (is_near p from to today) sources (far_from p sources from to today day sound low high))
