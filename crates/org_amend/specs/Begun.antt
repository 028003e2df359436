-- What is written where a clock begins (profile, as Org writes it).
use Rattle.std.specs.Prelude.{ℕ, ◌-◌, Bool, ◌&&◌, not, ◌==◌, nat_lt, if◌then◌else◌, List, ◌++◌, take, codes, slice_index}
use Rattle.std.specs.List.{prefix_len}
use Rattle.org_amend.specs.Clocks.{moment_stamp}
use Rattle.org_base.specs.Words.{is_space}
use Rattle.org_cal.specs.declared.moment.Moment.{Moment}
use Rattle.org_stamp.specs.Print.{stamp_text}

-- the white space in front of a line
abbrev pub indent_of : List ℕ → List ℕ
indent_of line = take (prefix_len is_space line) line

-- how many bytes of a section stand before the end of its first line
abbrev pub first_len : List ℕ → ℕ
first_len section = prefix_len (λ b. not (b == 10)) section

-- a carriage return stands before that end
abbrev pub has_return : List ℕ → Bool
has_return section = nat_lt 0 (first_len section) && (slice_index section (first_len section - 1) == 13)

-- how the lines of a section end: as its first one does
abbrev pub line_break : List ℕ → List ℕ
line_break section = if has_return section then codes "\r\n" else codes "\n"

-- the line of a clock that runs since a stamp, with what ends it
abbrev pub clock_text : List ℕ → List ℕ → List ℕ
clock_text stamp end = codes "CLOCK: " ++ (stamp ++ end)

-- the line of a clock that begins at a moment, first in the drawer that such a line opens
abbrev pub clock_line : Moment → List ℕ → List ℕ → List ℕ
clock_line now opening end = indent_of opening ++ clock_text (stamp_text (moment_stamp now)) end

-- a drawer with a clock that runs since a stamp; its last line isn't ended
abbrev pub drawer_lines : List ℕ → List ℕ → List ℕ
drawer_lines stamp end = codes ":LOGBOOK:" ++ (end ++ (clock_text stamp end ++ codes ":END:"))

-- the same behind a line that is ended or isn't; as that is, its last line is too
abbrev pub drawer_behind : List ℕ → Bool → List ℕ → List ℕ
drawer_behind stamp is_ended end = if is_ended then drawer_lines stamp end ++ end else end ++ drawer_lines stamp end

-- the same with a clock that begins at a moment
abbrev pub clock_drawer : Moment → Bool → List ℕ → List ℕ
clock_drawer now is_ended end = drawer_behind (stamp_text (moment_stamp now)) is_ended end
