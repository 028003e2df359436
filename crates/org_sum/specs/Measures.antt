-- What is summed of an entry (Org manual 9.6, "Clocking"; "Effort Estimates").
use Rattle.std.specs.Prelude.{ℕ, List, codes, unwrap_or}
use Rattle.std.specs.List.{sum_by}
use Rattle.std.specs.Option.{option_and_then}
use Rattle.org_base.specs.Properties.{value_in}
use Rattle.org_drawer.specs.Clock.{minutes_in}
use Rattle.org_drawer.specs.Effort.{effort_of}
use Rattle.org_drawer.specs.declared.clock.ClockLine.{ClockLine}
use Rattle.org_entry.specs.declared.entry.Entry.{Entry}
use Rattle.org_sum.specs.declared.measure.Measure.{Measure}
use Rattle.org_sum.specs.declared.measure.Measure.TheVariants.{Clocks, Efforts}

-- the minutes of clocks in the days from a first to a last
abbrev pub minutes_of : ℕ × ℕ → List ClockLine → ℕ
minutes_of days clocks = sum_by (λ c. minutes_in c days) clocks

-- the minutes of an entry's clocks in the days
unfoldable pub clock_minutes : ℕ × ℕ → Entry → ℕ
clock_minutes days e = sum_by (λ c. minutes_in c days) e.details.clocks

-- the effort of an entry's own property; 0 where there is none, or the text is no effort
unfoldable pub effort_minutes : Entry → ℕ
effort_minutes e = unwrap_or (option_and_then effort_of (value_in e.details.drawer (codes "EFFORT"))) 0

-- what is measured of an entry
abbrev pub amount : Measure → Entry → ℕ
amount (Clocks period) e = clock_minutes (period.first, period.last) e
amount Efforts e = effort_minutes e
