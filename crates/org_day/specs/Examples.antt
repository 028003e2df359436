-- Worked examples: what the definitions say of inputs at which a wrong rule says something else.
use Rattle.std.specs.Prelude.{◌≡◌, ℕ, ◌∷◌, [], List, None, Some, codes, false, map, true}
use Rattle.org_day.specs.Orders.{by, order_of}
use Rattle.org_day.specs.Painted.{escape_of}
use Rattle.org_day.specs.Placed.{line_of}
use Rattle.org_day.specs.Sections.{section_of}
use Rattle.org_day.specs.Shown.{shown}
use Rattle.org_day.specs.declared.paint.Background.TheVariants.{Dark, Light, Unknown}
use Rattle.org_day.specs.declared.role.Role.TheVariants as role
use Rattle.org_day.specs.declared.section.Section.{Section}
use Rattle.org_day.specs.declared.section.Section.TheVariants.{AllDay, ByTheClock, Due, Late, Planned, DueSoon, Habits}
use Rattle.org_day.specs.declared.stand.Hours.{Hours}
use Rattle.org_day.specs.declared.stand.Kind.{Kind}
use Rattle.org_day.specs.declared.stand.Kind.TheVariants.{Stamp, Range, Planned as PlannedRow, Due as DueRow, LatePlanned, LateDue, DueIn}
use Rattle.org_day.specs.declared.stand.Stand.{Stand}

-- a row of a heading without a time, and one from 9:00 on
abbrev pub whole : ℕ → Kind → Stand
whole heading kind = record { heading = heading; kind = kind; hours = None; is_habit = false; urgency = 66 }

abbrev pub timed : ℕ → Kind → Stand
timed heading kind = record { heading = heading; kind = kind; hours = Some (record { start = 540; end = None }); is_habit = false; urgency = 66 }

abbrev pub habit : Kind → Stand
habit kind = record { heading = 0; kind = kind; hours = Some (record { start = 540; end = None }); is_habit = true; urgency = 66 }

-- heading 1 is due in nine days, planned today and meets at 9:00; heading 2 is due in three days and was to be done four days ago
abbrev pub day : List Stand
day = whole 1 (DueIn 9) ∷ whole 2 (DueIn 3) ∷ timed 1 Stamp ∷ whole 1 PlannedRow ∷ whole 2 (LatePlanned 4) ∷ timed 1 Stamp ∷ []

pub record ExamplesHold : Type 0 where
  pub sections : map section_of (whole 0 Stamp ∷ whole 0 (Range 2 3) ∷ timed 0 Stamp ∷ timed 0 DueRow ∷ whole 0 DueRow ∷ whole 0 (LateDue 1) ∷ whole 0 PlannedRow ∷ timed 0 (DueIn 1) ∷ []) ≡
      AllDay ∷ AllDay ∷ ByTheClock ∷ ByTheClock ∷ Due ∷ Late ∷ Planned ∷ DueSoon ∷ []
  -- what a habit is to do, and a stamp of its text
  pub habits : map section_of (habit PlannedRow ∷ habit (LatePlanned 2) ∷ habit Stamp ∷ []) ≡ Habits ∷ Habits ∷ ByTheClock ∷ []
  -- notes stand in the line of the first section, and each row with a time in its own
  pub first : line_of day (whole 1 (DueIn 9)) 0 ≡ 2
  pub planned : line_of day (whole 1 PlannedRow) 3 ≡ 2
  pub again : line_of day (timed 1 Stamp) 5 ≡ 5
  pub late : line_of day (whole 2 (DueIn 3)) 1 ≡ 4
  -- of a habit that was to be done yesterday, and again today, the late row leads
  pub late_habit : line_of (habit PlannedRow ∷ habit (LatePlanned 1) ∷ []) (habit PlannedRow) 0 ≡ 1
  pub late_row : line_of day (whole 2 (LatePlanned 4)) 4 ≡ 4
  -- of late rows deadlines stand first, and of two the one that is later
  pub deadline : order_of (whole 0 (LateDue 1)) Late ≡ by 0 4294967294 66
  pub schedule : order_of (whole 0 (LatePlanned 3)) Late ≡ by 1 4294967292 66
  pub soon : order_of (whole 0 (DueIn 3)) DueSoon ≡ by 3 66 0
  pub start : order_of (timed 0 Stamp) ByTheClock ≡ by 540 0 0
  -- ESC, U+009B, U+202E and U+E0041 are hidden, U+00A0 and U+200E aren't
  pub hidden : map shown (27 ∷ 127 ∷ 155 ∷ 0x202E ∷ 0xE0041 ∷ 160 ∷ 0x200E ∷ 126 ∷ []) ≡ 0xFFFD ∷ 0xFFFD ∷ 0xFFFD ∷ 0xFFFD ∷ 0xFFFD ∷ 160 ∷ 0x200E ∷ 126 ∷ []
  pub dark : escape_of role.Late (Some Dark) ≡ 27 ∷ codes "[91m"
  pub light : escape_of role.DueHead (Some Light) ≡ 27 ∷ codes "[1;35m"
  pub unknown : escape_of role.Now (Some Unknown) ≡ 27 ∷ codes "[1m"
  pub plain : escape_of role.Late None ≡ []
