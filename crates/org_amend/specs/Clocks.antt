-- Clocks that run and end (Org Syntax, "Clocks"; how an end is written: profile, as Org writes it).
use Rattle.std.specs.Prelude.{ℕ, false, ◌+◌, ◌-◌, ◌/◌, ◌%◌, List, [], ◌∷◌, ◌++◌, length, drop, slice_get, Option, Some, None, codes, decimal, nat_lt, if◌then◌else◌, unwrap_or}
use Rattle.std.specs.Option.{option_and_then, option_map}
use Rattle.org_cal.specs.Minutes.{minute_of}
use Rattle.org_cal.specs.Texts.{two}
use Rattle.org_cal.specs.declared.moment.Moment.{Moment}
use Rattle.org_class.specs.declared.class.Class.{Class}
use Rattle.org_class.specs.declared.class.Class.TheVariants.{Clock}
use Rattle.org_drawer.specs.Clock.{clock_of}
use Rattle.org_base.specs.declared.span.Span.{Span}
use Rattle.org_lines.specs.Cuts.{lines_in}
use Rattle.org_stamp.specs.Pair.{past_spaces}
use Rattle.org_stamp.specs.Print.{stamp_text}
use Rattle.org_stamp.specs.Read.{single_of}
use Rattle.org_stamp.specs.declared.stamp.Stamp.{Stamp}
use Rattle.org_amend.specs.declared.running.RunningClock.{RunningClock}

-- the minute of a moment
abbrev pub minute_at : Moment → ℕ
minute_at now = minute_of now.day now.minute

-- a clock that began in that minute and has no end
abbrev pub from_unended : ℕ → Option ℕ → Option ℕ
from_unended from None = Some from
from_unended from (Some to) = None

-- the minute in which the clock of a line began, if it runs
abbrev pub since : List ℕ → Option ℕ
since line = option_and_then (λ clock. from_unended clock.from clock.to) (clock_of line)

-- what a clock line has from its stamp on
abbrev pub from_stamp : List ℕ → List ℕ
from_stamp line = past_spaces (drop 6 (past_spaces line))

-- how long the stamp at the front is, of a range the first one
abbrev pub stamp_len : List ℕ → ℕ
stamp_len bytes = unwrap_or (option_map (λ found. found.1) (single_of bytes)) 0

-- where the stamp of a clock line ends, of a range the first one
abbrev pub stamp_end : List ℕ → ℕ
stamp_end line = (length line - length (from_stamp line)) + stamp_len (from_stamp line)

-- the clock of a line at a place, if it runs
abbrev pub running_line : ℕ → List ℕ → Option RunningClock
running_line at line = option_map (λ from. record { at = at; len = length line; end = at + stamp_end line; from = from }) (since line)

-- the same, of a line of class Clock alone: others stand in blocks
abbrev pub running_of : Option Class → ℕ → List ℕ → Option RunningClock
running_of (Some Clock) at line = running_line at line
running_of class at line = None

abbrev pub or_later : Option RunningClock → Option RunningClock → Option RunningClock
or_later None later = later
or_later (Some found) later = Some found

-- the first running clock of lines, of which the first has the class at this place and begins at that one
unfoldable pub first_running : List Class → ℕ → ℕ → List (List ℕ) → Option RunningClock
first_running cs place at [] = None
first_running cs place at (l ∷ ls) = or_later (running_of (slice_get cs place) at l) (first_running cs (place + 1) (at + length l) ls)

-- the first running clock of a section of a text
abbrev pub running_in : List ℕ → Span → List Class → Option RunningClock
running_in text section cs = first_running cs 0 section.at (lines_in text section)

-- the inactive stamp of a moment
abbrev pub moment_stamp : Moment → Stamp
moment_stamp now = record { active = false; day = now.day; time = Some now.minute; end_time = None; repeater = None; delay = None; last = None }

-- hours in two places or more, a colon, two digits of minutes
abbrev pub hours_text : ℕ → List ℕ
hours_text minutes = (if nat_lt (minutes / 60) 10 then codes " " else []) ++ (decimal (minutes / 60) ++ 58 ∷ two (minutes % 60))

-- what is put behind the stamp of a clock that ends at a moment, after so many minutes
abbrev pub end_text : Moment → ℕ → List ℕ
end_text now minutes = codes "--" ++ (stamp_text (moment_stamp now) ++ (codes " => " ++ hours_text minutes))
