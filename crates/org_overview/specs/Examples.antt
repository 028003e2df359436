-- Worked examples: what the definitions say of inputs at which a wrong rule says something else.
use Rattle.std.specs.Prelude.{◌≡◌, ◌+◌, ◌*◌, ℕ, List, [], ◌∷◌, None, Some, codes, false, true}
use Rattle.org_agenda.specs.declared.row.Row.{Row}
use Rattle.org_agenda.specs.declared.row.RowKind.{RowKind}
use Rattle.org_agenda.specs.declared.row.RowKind.TheVariants.{InRange, LateDeadline, OnDay, OnDeadline, Warning}
use Rattle.org_drawer.specs.declared.clock.ClockLine.{ClockLine}
use Rattle.org_overview.specs.Asked.{chart_days}
use Rattle.org_overview.specs.Charts.{has_any}
use Rattle.org_overview.specs.Marks.{byte_of, hours_of, stand_of}
use Rattle.org_overview.specs.Parts.{rows_of}
use Rattle.org_overview.specs.Sums.{day_sums, touching}
use Rattle.org_overview.specs.Tasks.{adds_word}
use Rattle.org_overview.specs.declared.part.Part.TheVariants.{Late, Soon, Single, Whole, Timed}
use Rattle.org_page.specs.declared.row.Stand.TheVariants.{Late as LateBy, Range}

-- a row of a kind with a start
abbrev pub row_at : RowKind → ℕ → Row
row_at kind start = record { kind = kind; start = Some start; end = None; number = 2; of = 3; file = 0; heading = 0; stamp_at = 0 }

-- one of each of five kinds
abbrev pub five : List Row
five = row_at OnDay 60 ∷ row_at InRange 60 ∷ row_at OnDeadline 60 ∷ row_at Warning 60 ∷ row_at LateDeadline 60 ∷ []

-- a clock from the minute of a day to that of another
abbrev pub clock : ℕ → ℕ → ClockLine
clock from to = record { from = from; to = Some to }

pub record ExamplesHold : Type 0 where
  -- a day of a range has no hours, also where it has a start
  pub whole : rows_of Whole five ≡ row_at InRange 60 ∷ []
  pub timed : rows_of Timed five ≡ row_at OnDay 60 ∷ row_at OnDeadline 60 ∷ []
  -- a deadline is late on a day after its own, and of the day itself on that
  pub late : rows_of Late five ≡ row_at LateDeadline 60 ∷ []
  pub soon : rows_of Soon five ≡ row_at Warning 60 ∷ []
  pub single : rows_of Single five ≡ row_at OnDay 60 ∷ row_at OnDeadline 60 ∷ []
  -- two numbers of a range, and one of what is late
  pub range : stand_of InRange 2 3 ≡ Range 2 3
  pub late_by : stand_of LateDeadline 2 0 ≡ LateBy 2
  -- an end without a start is none
  pub no_start : hours_of None (Some 60) ≡ None
  -- a stamp's byte is counted from the beginning of its file
  pub byte : byte_of (Some (record { at = 100; line = 7 })) 20 ≡ 120
  -- a keyword is named once
  pub known : adds_word (codes "TODO" ∷ codes "NEXT" ∷ []) (codes "TODO") ≡ codes "TODO" ∷ codes "NEXT" ∷ []
  pub new : adds_word (codes "TODO" ∷ []) (codes "TOD") ≡ codes "TODO" ∷ codes "TOD" ∷ []
  -- a clock over midnight has minutes on both days: from 23:30 of day 5 to 01:00 of day 6
  pub midnight : day_sums (clock (4 * 1440 + 1410) (5 * 1440 + 60) ∷ []) (4, 7) ≡ 0 ∷ 30 ∷ 60 ∷ 0 ∷ []
  -- one that ends with a day has none on the next
  pub to_midnight : day_sums (clock (4 * 1440) (5 * 1440) ∷ []) (5, 6) ≡ 1440 ∷ 0 ∷ []
  -- one that ends where the days begin isn't one of theirs
  pub before : touching (5, 6) (clock 0 (4 * 1440) ∷ []) ≡ []
  pub nothing : has_any (0 ∷ 0 ∷ []) ≡ false
  pub something : has_any (0 ∷ 1 ∷ []) ≡ true
  -- 2024-02-28 is day 738944, and 2024-01-01 with day 738886 the Monday of eight weeks before
  pub eight_weeks : chart_days 738944 ≡ (738886, 738944)
  -- a calendar begins with its first day
  pub first_days : chart_days 3 ≡ (1, 3)
