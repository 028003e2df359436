-- Laws of lists of clock lines.
use Rattle.std.specs.Prelude.{◌≡◌, ℕ, List, Some, map, slice_get}
use Rattle.std.specs.List.{sum_by}
use Rattle.org_client.specs.Clocks.{clock_rows}
use Rattle.org_client.specs.declared.clocks.ClockRow.{ClockRow}
use Rattle.org_clocktable.specs.Counted.{whole_of}
use Rattle.org_clocktable.specs.Laws.{counting_in}
use Rattle.org_clocktable.specs.Table.{step_rows}
use Rattle.org_clocktable.specs.declared.row.Of.TheVariants.{All}
use Rattle.org_inherit.specs.Scope.{Scope}
use Rattle.org_sum.specs.Measures.{effort_minutes}

-- the minutes of the list of some days
abbrev pub minutes_listed : ℕ × ℕ → List Scope → ℕ
minutes_listed days scopes = sum_by (λ (row : ClockRow). row.minutes) (clock_rows days scopes)

-- they are the total of the clock table of the same days, which is its first row, to whichever level
abbrev pub ClocksMakeTheTotal : Type 0
ClocksMakeTheTotal = (days : ℕ × ℕ) (most : ℕ) (scopes : List Scope) →
    slice_get (step_rows days most (map whole_of scopes)) 0 ≡
    Some (record { of = All; clock = minutes_listed days scopes; effort = counting_in effort_minutes (map whole_of scopes) })
