-- Laws of days as people type them.
use Rattle.std.proofs.Common.{◌≡◌, ◌↔◌, ℕ, ◌+◌, ◌-◌, ◌*◌, ◌≤◌, true, nat_le, ◌&&◌, refl, sym, ◌∙◌, ap, arith, ℤ, pos, ◌+ℤ◌, ◌*ℤ◌, if◌then◌else◌}
use Rattle.std.specs.Prelude.{Some, None, neg_ℤ}
use Rattle.std.proofs.lemmas.Bool.Decides.{nat_tests}
use Rattle.jiff_core.proofs.SignedLemmas.{signed_arith}
use Rattle.org_cal.specs.Added.{IsMonthsAfter, day_of_month, month_index}
use Rattle.org_cal.specs.Blocks.{this_month}
use Rattle.org_cal.specs.Days.{IsDay}
use Rattle.org_cal.specs.Parts.{year_of, month_of, month_day_of}
use Rattle.org_cal.specs.Typed.{in_calendar, in_month}
use Rattle.org_cal.specs.TypedLaws.{WeekdaysAreNext, LaterIsAdded, EarlierIsAdded}
use Rattle.org_cal.specs.declared.unit.Unit.TheVariants.{Hour, Day, Week, Month, Year}
use Rattle.org_cal.proofs.PartLemmas.{date_holds, parts_are}
use Rattle.org_cal.proofs.TextLemmas.{chosen}

pub weekdays_are_next : WeekdaysAreNext
weekdays_are_next today weekday day h =
    (λ f. omega (arith, f, h), λ e. (omega (arith, e, h), omega (arith, e, h), omega (arith, e, h)))

same_some : (a b : ℕ) → Some a ≡ Some b → a ≡ b
same_some a b e = cc

-- a number stands for a day where it is that of one
calendar_some : (n day : ℕ) → (in_calendar n ≡ Some day) ↔ (IsDay day × (day ≡ n))
calendar_some n day = (
  λ e. chosen (nat_le 1 n && nat_le n 3_652_059) _ _ _ e
      (λ fits is. let same : n ≡ day = same_some n day is in
      let bounds : (1 ≤ n) × (n ≤ 3_652_059) = (grind (arith, nat_tests), grind (arith, nat_tests)) in
      ((omega (arith, bounds, same), omega (arith, bounds, same)), sym same))
      (λ no is. absurd (cc)),
  λ d. let fits : (nat_le 1 n && nat_le n 3_652_059) ≡ true = grind (arith, nat_tests) in
      ap (λ c. if c then Some n else None) fits ∙ ap Some (sym d.1),
)

month_some : (i date day : ℕ) → (in_month i date ≡ Some day) ↔ ((12 ≤ i) × (i ≤ 119_999) × (day ≡ day_of_month i date))
month_some i date day = (
  λ e. chosen (nat_le 12 i && nat_le i 119_999) _ _ _ e
      (λ fits is. let same : day_of_month i date ≡ day = same_some (day_of_month i date) day is in
      (grind (arith, nat_tests), grind (arith, nat_tests), sym same))
      (λ no is. absurd (cc)),
  λ d. let fits : (nat_le 12 i && nat_le i 119_999) ≡ true = grind (arith, nat_tests) in
      ap (λ c. if c then Some (day_of_month i date) else None) fits ∙ ap Some (sym d.2),
)

-- the month i is the one that is k months after that of the day, if there is one
months_added : (today i day : ℕ) (k : ℤ) → IsDay today → ((j : ℕ) → 12 ≤ j → (pos j ≡ pos (this_month today) +ℤ k) ↔ (j ≡ i)) → (in_month i (month_day_of today) ≡ Some day) ↔ IsMonthsAfter today k day
months_added today i day k h same = (
  λ e. let found = (month_some i (month_day_of today) day).0 e in
      let date = date_holds today h in
      record {
        year = year_of today;
        month = month_of today;
        date = month_day_of today;
        index = i;
        real = date.0;
        base_is = date.1;
        index_is = (same i found.0).1 refl;
        in_years = (found.0, found.1);
        day_is = found.2;
      },
  λ r. let parts = parts_are today r.year r.month r.date r.real r.base_is in
      let number : month_index r.year r.month ≡ this_month today = omega (arith, parts) in
      let index : r.index ≡ i = (same r.index r.in_years.0).0 (r.index_is ∙ ap (λ m. pos m +ℤ k) number) in
      (month_some i (month_day_of today) day).1 (
        omega (arith, r.in_years, index),
        omega (arith, r.in_years, index),
        r.day_is ∙ (ap (λ m. day_of_month m r.date) index ∙ ap (day_of_month i) (sym parts.2)),
      ),
)

pub later_is_added : LaterIsAdded
later_is_added Hour n today day h = (λ e. absurd (cc), λ never. absurd never)
later_is_added Day n today day h = (
  λ e. let d = (calendar_some (today + n) day).0 e in (d.0, omega (arith, signed_arith, d.1)),
  λ a. (calendar_some (today + n) day).1 (a.0, omega (arith, signed_arith, a.1)),
)
later_is_added Week n today day h = (
  λ e. let d = (calendar_some (today + 7 * n) day).0 e in (d.0, omega (arith, signed_arith, d.1)),
  λ a. (calendar_some (today + 7 * n) day).1 (a.0, omega (arith, signed_arith, a.1)),
)
later_is_added Month n today day h =
    months_added today (this_month today + n) day (pos n) h
    (λ j low. (λ e. omega (arith, signed_arith, e), λ e. omega (arith, signed_arith, e)))
later_is_added Year n today day h =
    months_added today (this_month today + 12 * n) day (pos n *ℤ pos 12) h
    (λ j low. (λ e. omega (arith, signed_arith, e), λ e. omega (arith, signed_arith, e)))

pub earlier_is_added : EarlierIsAdded
earlier_is_added Hour n today day h = (λ e. absurd (cc), λ never. absurd never)
earlier_is_added Day n today day h = (
  λ e. let d = (calendar_some (today - n) day).0 e in (d.0, omega (arith, signed_arith, d.1, d.0)),
  λ a. (calendar_some (today - n) day).1 (a.0, omega (arith, signed_arith, a.1, a.0)),
)
earlier_is_added Week n today day h = (
  λ e. let d = (calendar_some (today - 7 * n) day).0 e in (d.0, omega (arith, signed_arith, d.1, d.0)),
  λ a. (calendar_some (today - 7 * n) day).1 (a.0, omega (arith, signed_arith, a.1, a.0)),
)
earlier_is_added Month n today day h =
    months_added today (this_month today - n) day (neg_ℤ (pos n)) h
    (λ j low. (λ e. omega (arith, signed_arith, e, low), λ e. omega (arith, signed_arith, e, low)))
earlier_is_added Year n today day h =
    months_added today (this_month today - 12 * n) day (neg_ℤ (pos n) *ℤ pos 12) h
    (λ j low. (λ e. omega (arith, signed_arith, e, low), λ e. omega (arith, signed_arith, e, low)))
