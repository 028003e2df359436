-- Weeks and their bars.
use Rattle.std.specs.Prelude.{◌≡◌, ℕ, ◌+◌, ◌-◌, max, List, [], Option, None, Some, Result, IfOk, map, slice_get, vec_len}
use Rattle.std.specs.List.{range_with_len}
use Rattle.std.specs.String.{string_bytes}
use Rattle.org_look.specs.Entries.{left_count, own_labels, shown_count}
use Rattle.org_look.specs.FreeLanes.{lanes_of}
use Rattle.org_look.specs.Lanes.{AreApart}
use Rattle.org_look.specs.declared.span.Bar.{Bar}
use Rattle.org_look.specs.declared.cell.Cell.{Cell}
use Rattle.org_look.specs.declared.cell.Shape.{Shape}
use Rattle.org_look.specs.declared.day.GridDay.{GridDay}
use Rattle.org_look.specs.declared.entry.Entry.{Entry}
use Rattle.org_look.specs.declared.span.Span.{Span}
use Rattle.org_look.specs.declared.week.Week.{Week}
use Rattle.org_look.specs.declared.wrap.Labels.{Labels}

-- the days of bars
abbrev pub spans_of : List Bar → List Span
spans_of bars = map (λ bar. bar.span) bars

-- the bars of a week lie apart in so many lanes, unless memory is refused
abbrev pub LiesApart : {E : Type 0} → Result Week E → ℕ → Type 0
LiesApart result most = IfOk result (λ week. AreApart (spans_of week.bars.items) week.lanes.items most)

-- each bar of the week lies in the first of so many lanes that is free on its days, or in none, unless memory is refused
abbrev pub LiesFirst : {E : Type 0} → Result Week E → ℕ → Type 0
LiesFirst result most = IfOk result (λ week. week.lanes.items ≡ lanes_of most (spans_of week.bars.items))

-- what a cell is filled with has the labels of a day's own rows, unless they are broken into lines or memory is refused
abbrev pub HoldsLabels : {E : Type 0} → Result Labels E → Option ℕ → List Entry → Type 0
HoldsLabels result breaks entries = breaks ≡ None → IfOk result (λ labels. map string_bytes labels.texts.items ≡ own_labels entries)

-- a cell has the labels of a day's own rows, unless they are broken into lines or memory is refused
abbrev pub HoldsRows : {E : Type 0} → Result Cell E → Option ℕ → List Entry → Type 0
HoldsRows result breaks entries = breaks ≡ None → IfOk result (λ cell. map string_bytes cell.labels.items ≡ own_labels entries)

-- the lines that are left for the rows of a cell, at least one
abbrev pub room_of : ℕ → Shape → ℕ
room_of lines shape = max (lines - (shape.lanes + shape.notes)) 1

-- a cell shows as many of its rows as have room, and counts all others with the bars that have no line, unless memory is refused
abbrev pub SharesRows : {E : Type 0} → Result Cell E → ℕ → ℕ → Type 0
SharesRows result bars lines = IfOk result (λ cell.
    (cell.shape.shown ≡ shown_count (vec_len cell.labels) bars (room_of lines cell.shape))
    × (cell.shape.left ≡ left_count (vec_len cell.labels) bars (room_of lines cell.shape)))

-- the labels that a cell has
abbrev pub cell_labels : Cell → List (List ℕ)
cell_labels cell = map string_bytes cell.labels.items

-- those of the rows of a day itself; a day that isn't there has none
abbrev pub day_labels : Option GridDay → List (List ℕ)
day_labels None = []
day_labels (Some day) = own_labels day.entries.items

-- a cell has them, unless they are broken into lines or memory is refused
abbrev pub HoldsDay : {E : Type 0} → Result Cell E → Option ℕ → Option GridDay → Type 0
HoldsDay result breaks day = breaks ≡ None → IfOk result (λ cell. cell_labels cell ≡ day_labels day)

-- those of so many days
abbrev pub days_labels : List GridDay → ℕ → List (List (List ℕ))
days_labels days count = map (λ column. day_labels (slice_get days column)) (range_with_len 0 count)

-- seven cells have them, unless they are broken into lines
abbrev pub AreCells : Option ℕ → List Cell → List GridDay → Type 0
AreCells breaks cells days = breaks ≡ None → map cell_labels cells ≡ days_labels days 7
