-- Lists of clock lines (Org manual 9.6, "The clock table"; that they are listed, and which ones: profile).
use Rattle.std.specs.Prelude.{ℕ, ◌+◌, Bool, ◌&&◌, ◌||◌, nat_le, nat_lt, if◌then◌else◌, is_some, min, max, List, [], ◌∷◌, ◌++◌, Option}
use Rattle.std.specs.Option.{option_map}
use Rattle.org_cal.specs.Minutes.{minute_of}
use Rattle.org_client.specs.declared.clocks.ClockRow.{ClockRow}
use Rattle.org_drawer.specs.Clock.{minutes_in}
use Rattle.org_drawer.specs.declared.clock.ClockLine.{ClockLine}
use Rattle.org_entry.specs.declared.entry.Entry.{Entry}
use Rattle.org_inherit.specs.Scope.{Scope}
use Rattle.org_outline.specs.Levels.{level_of}

-- a minute lies in the days from a first to a last
abbrev pub is_in_days : ℕ × ℕ → ℕ → Bool
is_in_days days minute = nat_le (minute_of days.0 0) minute && nat_lt minute (minute_of (days.1 + 1) 0)

-- a clock is one of these days: it begins in them, or has minutes in them
abbrev pub is_of_days : ℕ × ℕ → ClockLine → Bool
is_of_days days clock = is_in_days days clock.from || nat_lt 0 (minutes_in clock days)

-- when it begins and ends in them; one that runs has no end
abbrev pub beginning : ℕ × ℕ → ClockLine → ℕ
beginning days clock = max clock.from (minute_of days.0 0)

abbrev pub ending : ℕ × ℕ → Option ℕ → Option ℕ
ending days end = option_map (λ to. min to (minute_of (days.1 + 1) 0)) end

-- its row
abbrev pub clock_row : ℕ × ℕ → ℕ → ℕ → ℕ → ClockLine → ClockRow
clock_row days file heading number clock = record {
  file = file;
  heading = heading;
  number = number;
  from = beginning days clock;
  to = ending days clock.to;
  minutes = minutes_in clock days;
}

-- the rows of clocks of a heading, the first of which has a number among them
abbrev pub rows_of : ℕ × ℕ → ℕ → ℕ → ℕ → List ClockLine → List ClockRow
rows_of days file heading number [] = []
rows_of days file heading number (clock ∷ clocks) =
    (if is_of_days days clock then clock_row days file heading number clock ∷ [] else []) ++ rows_of days file heading (number + 1) clocks

-- those of an entry, if it is a heading
abbrev pub entry_rows : ℕ × ℕ → ℕ → ℕ → Entry → List ClockRow
entry_rows days file heading e = if is_some (level_of e) then rows_of days file heading 0 e.details.clocks else []

-- those of entries, the first of which stands at a place
abbrev pub rows_from : ℕ × ℕ → ℕ → ℕ → List Entry → List ClockRow
rows_from days file heading [] = []
rows_from days file heading (e ∷ es) = entry_rows days file heading e ++ rows_from days file (heading + 1) es

-- those of a file
abbrev pub file_rows : ℕ × ℕ → ℕ → List Entry → List ClockRow
file_rows days file es = rows_from days file 0 es

-- those of files, the first of which stands at a place
abbrev pub files_from : ℕ × ℕ → ℕ → List Scope → List ClockRow
files_from days file [] = []
files_from days file (scope ∷ scopes) = file_rows days file scope.entries ++ files_from days (file + 1) scopes

-- those of all files
abbrev pub clock_rows : ℕ × ℕ → List Scope → List ClockRow
clock_rows days scopes = files_from days 0 scopes
