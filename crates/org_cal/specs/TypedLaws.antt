-- Laws of days as people type them (Gregorian calendar; Org manual 9.6, "The date/time prompt" and "Repeated tasks").
use Rattle.std.specs.Prelude.{◌≡◌, ◌↔◌, ℕ, ◌+◌, ◌<◌, ◌≤◌, Some, pos, neg_ℤ}
use Rattle.org_cal.specs.Added.{IsAdded}
use Rattle.org_cal.specs.Days.{IsDay}
use Rattle.org_cal.specs.Parts.{weekday_of}
use Rattle.org_cal.specs.Typed.{earlier, later, weekday_from}
use Rattle.org_cal.specs.declared.unit.Unit.{Unit}

-- the first such weekday from a day on is the only one of its seven days that is one
abbrev pub WeekdaysAreNext : Type 0
WeekdaysAreNext = (today weekday day : ℕ) → weekday < 7 →
    ((weekday_of day ≡ weekday) × (today ≤ day) × (day < today + 7)) ↔ (day ≡ weekday_from today weekday)

-- so many units later is the day that a repeater of so many units has next
abbrev pub LaterIsAdded : Type 0
LaterIsAdded = (unit : Unit) (n today day : ℕ) → IsDay today → (later unit n today ≡ Some day) ↔ IsAdded today (pos n) unit day

-- so many units earlier is the day with that number taken away
abbrev pub EarlierIsAdded : Type 0
EarlierIsAdded = (unit : Unit) (n today day : ℕ) → IsDay today → (earlier unit n today ≡ Some day) ↔ IsAdded today (neg_ℤ (pos n)) unit day
