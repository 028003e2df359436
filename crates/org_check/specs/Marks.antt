-- The marks of lines that look planned and aren't read so (Org Syntax, "Planning"; "Property Drawers"; "Blocks"; "Clocks";
-- what looks so: profile).
use Rattle.std.specs.Cow.{cow_slice_items}
use Rattle.std.specs.Prelude.{ℕ, Option, Some, None, Bool, true, false, ◌&&◌, not, ◌==◌, List, [], ◌∷◌, ◌++◌, map, flat_map, drop, length, codes, nat_eq, is_some}
use Rattle.std.specs.List.{prefix_len, starts_with}
use Rattle.org_base.specs.Words.{is_space}
use Rattle.org_base.specs.declared.span.Span.{Span}
use Rattle.org_lines.specs.Cuts.{Cut, cuts, lines_in}
use Rattle.org_lines.specs.declared.lines.Line.{Line}
use Rattle.org_stamp.specs.Pair.{past_spaces, word_at}
use Rattle.org_class.specs.Blocks.{block_name}
use Rattle.org_class.specs.Classes.{classes_in}
use Rattle.org_class.specs.Drawers.{is_drawer_open}
use Rattle.org_class.specs.Sections.{sections, spans_from}
use Rattle.org_class.specs.declared.class.Class.{Class}
use Rattle.org_class.specs.declared.class.Class.TheVariants.{Clock, Heading, Plain, Planning, Setting}
use Rattle.org_drawer.specs.Clock.{clock_of}
use Rattle.org_drawer.specs.declared.clock.ClockLine.{ClockLine}
use Rattle.org_check.specs.Clocks.{counts_nothing}
use Rattle.org_check.specs.UnreadStamps.{is_unread, unread_in}
use Rattle.org_check.specs.declared.look.Look.{Look}
use Rattle.org_check.specs.declared.look.Look.TheVariants as look
use Rattle.org_check.specs.declared.look.Mark.{Mark}

-- a line of the class is text: neither a heading nor part of a planning line, a drawer, a block or a comment
abbrev pub is_text : Class → Bool
is_text Plain = true
is_text Setting = true
is_text _ = false

-- stamps are looked for in lines of the class
abbrev pub has_stamps : Class → Bool
has_stamps Heading = true
has_stamps Planning = true
has_stamps Clock = true
has_stamps Plain = true
has_stamps Setting = true
has_stamps _ = false

-- the line is a clock line
abbrev pub is_clock_class : Class → Bool
is_clock_class Clock = true
is_clock_class _ = false

-- where the first character of a line stands that is no white space
abbrev pub indent : List ℕ → ℕ
indent line = prefix_len is_space line

-- the line is no planning line, and its first word begins with a planning word
abbrev pub is_stray_planning : Class → List ℕ → Bool
is_stray_planning class line = is_text class && is_some (word_at (past_spaces line))

-- the line opens no drawer, and says that a property drawer opens
abbrev pub is_stray_drawer : Class → List ℕ → Bool
is_stray_drawer class line = is_text class && is_drawer_open line

-- the line opens no block, and says that one opens
abbrev pub is_unclosed_block : Class → List ℕ → Bool
is_unclosed_block class line = is_text class && not (length (block_name line) == 0)

-- the line is no clock line, and begins as one does
abbrev pub is_unread_clock : Class → List ℕ → Bool
is_unread_clock class line = is_text class && starts_with nat_eq (past_spaces line) (codes "CLOCK:")

-- a clock counts nothing, if it is one
abbrev pub is_nothing : Option ClockLine → Bool
is_nothing None = false
is_nothing (Some clock) = counts_nothing clock

-- the line is a clock line whose clock counts nothing
abbrev pub counts_nothing_in : Class → List ℕ → Bool
counts_nothing_in class line = is_clock_class class && is_nothing (clock_of line)

-- a mark at a place of a line that begins at a place
abbrev pub mark_at : Look → ℕ → ℕ → Mark
mark_at what at p = record { line_at = at; place = p; look = what }

-- the mark of a line, if it is one
abbrev pub mark_if : Bool → Look → ℕ → ℕ → List Mark
mark_if true what at p = mark_at what at p ∷ []
mark_if false what at p = []

-- those of lines that look planned and aren't read so
abbrev pub planning_marks : Class → ℕ → List ℕ → List Mark
planning_marks class at line = mark_if (is_stray_planning class line) look.Planning at (indent line)

abbrev pub drawer_marks : Class → ℕ → List ℕ → List Mark
drawer_marks class at line = mark_if (is_stray_drawer class line) look.Drawer at (indent line)

abbrev pub block_marks : Class → ℕ → List ℕ → List Mark
block_marks class at line = mark_if (is_unclosed_block class line) look.Block at (indent line)

abbrev pub clock_marks : Class → ℕ → List ℕ → List Mark
clock_marks class at line = mark_if (is_unread_clock class line) look.Clock at (indent line)

abbrev pub minutes_marks : Class → ℕ → List ℕ → List Mark
minutes_marks class at line = mark_if (counts_nothing_in class line) look.Minutes at (indent line)

-- those of the stamps of a line that aren't read
abbrev pub unread_marks : ℕ → List ℕ → List Mark
unread_marks at line = map (mark_at look.Stamp at) (unread_in line)

-- the same, if they are looked for
abbrev pub stamp_marks : Bool → ℕ → List ℕ → List Mark
stamp_marks true at line = unread_marks at line
stamp_marks false at line = []

-- that of a place of a line, if what stands there isn't read
abbrev pub place_marks : ℕ → ℕ → List ℕ → List Mark
place_marks at p line = mark_if (is_unread (drop p line)) look.Stamp at p

-- those of the stamps of a line of a class
abbrev pub class_stamp_marks : Class → ℕ → List ℕ → List Mark
class_stamp_marks class at line = stamp_marks (has_stamps class) at line

-- the marks of a line of a class that begins at a place: of the line, then of its stamps
abbrev pub line_marks : Class → ℕ → List ℕ → List Mark
line_marks class at line =
    planning_marks class at line
    ++ drawer_marks class at line
    ++ block_marks class at line
    ++ clock_marks class at line
    ++ minutes_marks class at line
    ++ class_stamp_marks class at line

-- the marks of a line of a class, if there is one
abbrev pub marks_if : Option Class → ℕ → List ℕ → List Mark
marks_if None at line = []
marks_if (Some class) at line = line_marks class at line

-- those of a line that was read
abbrev pub marks_in_line : Option Class → Line → List Mark
marks_in_line class line = marks_if class line.span.at (cow_slice_items line.bytes)

-- those of lines where they stand, of these classes, one for each
abbrev pub cut_marks : List Cut → List Class → List Mark
cut_marks [] cs = []
cut_marks (l ∷ ls) [] = []
cut_marks (l ∷ ls) (c ∷ cs) = line_marks c l.at l.bytes ++ cut_marks ls cs

-- the marks of a part of a text whose lines are of these classes
abbrev pub marks_in : List ℕ → Span → List Class → List Mark
marks_in content part classes = cut_marks (cuts (λ at. 0) part.at (lines_in content part)) classes

-- the marks of a section of a text
abbrev pub section_marks : List ℕ → Span → List Mark
section_marks content section = marks_in content section (classes_in content section)

-- the marks of a text: those of its sections
abbrev pub text_marks : List ℕ → List Mark
text_marks content = flat_map (section_marks content) (spans_from 0 (sections content))
