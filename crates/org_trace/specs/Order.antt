-- Rows by time (profile; that what has no time is the last of its day: Org's agenda).
use Rattle.std.specs.Prelude.{ℕ, ◌+◌, ◌*◌, List, unwrap_or}
use Rattle.std.specs.List.Sorted.{IsNonDecreasingBy, IsPermutation, IsStableByKey}
use Rattle.std.specs.Ordering.{nat_cmp}
use Rattle.org_cal.specs.declared.time_of_day.TheConstants.{MINUTES_PER_DAY}
use Rattle.org_trace.specs.declared.row.LogRow.{LogRow}

-- a number that rises by days and times
abbrev pub time_of : LogRow → ℕ
time_of row = row.entry.day * (MINUTES_PER_DAY + 1) + unwrap_or row.entry.time MINUTES_PER_DAY

-- the same rows by time, those of one time as they came
pub record IsByTime (came sorted : List LogRow) : Type 0 where
  pub same : IsPermutation came sorted
  pub rise : IsNonDecreasingBy time_of sorted
  pub stable : IsStableByKey time_of nat_cmp came sorted
