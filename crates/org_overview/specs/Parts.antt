-- Which rows of a day stand in which part of a page.
use Rattle.std.specs.Prelude.{Bool, true, false, not, ◌&&◌, ◌||◌, is_none, List, filter}
use Rattle.std.specs.List.Sorted.{IsNonDecreasingBy, IsPermutation, IsStableByKey}
use Rattle.std.specs.Ordering.{nat_cmp}
use Rattle.org_agenda.specs.declared.row.Row.{Row}
use Rattle.org_agenda.specs.declared.row.RowKind.{RowKind}
use Rattle.org_agenda.specs.declared.row.RowKind.TheVariants.{InRange, LateDeadline, LateSchedule, OnDay, OnDeadline, OnSchedule, Warning}
use Rattle.org_overview.specs.declared.part.Part.{Part}
use Rattle.org_overview.specs.declared.part.Part.TheVariants.{Late, Soon, Own, Ranges, Single, Whole, Timed}

-- the day of such a row passed
abbrev pub is_late : RowKind → Bool
is_late LateSchedule = true
is_late LateDeadline = true
is_late _ = false

-- it is due on a day to come
abbrev pub is_soon : RowKind → Bool
is_soon Warning = true
is_soon _ = false

-- it is of the day itself
abbrev pub is_own : RowKind → Bool
is_own OnDay = true
is_own InRange = true
is_own OnSchedule = true
is_own OnDeadline = true
is_own _ = false

-- the day is one of a range
abbrev pub is_range : RowKind → Bool
is_range InRange = true
is_range _ = false

-- it has no hours: a day of a range, or without a start
abbrev pub is_whole : Row → Bool
is_whole row = is_range row.kind || is_none row.start

abbrev pub is_of : Part → Row → Bool
is_of Late row = is_late row.kind
is_of Soon row = is_soon row.kind
is_of Own row = is_own row.kind
is_of Ranges row = is_range row.kind
is_of Single row = is_own row.kind && not (is_range row.kind)
is_of Whole row = is_own row.kind && is_whole row
is_of Timed row = is_own row.kind && not (is_whole row)

-- the rows that stand in a part, in their order
abbrev pub rows_of : Part → List Row → List Row
rows_of part rows = filter (is_of part) rows

-- the same rows by rising numbers, those of one number as they came
pub record IsByNumber (came sorted : List Row) : Type 0 where
  pub same : IsPermutation came sorted
  pub rise : IsNonDecreasingBy (λ (r : Row). r.number) sorted
  pub stable : IsStableByKey (λ (r : Row). r.number) nat_cmp came sorted
