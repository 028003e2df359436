-- The class of each line of a section (Org Syntax, "Sections"; "Planning"; "Property Drawers"; where a drawer may stand
-- before the first heading: profile). A section that doesn't begin with a heading line is the one before the first
-- heading.
use Rattle.std.specs.Cow.{cow_slice_items}
use Rattle.std.specs.Prelude.{◌≡◌, ◌++◌, ℕ, Bool, true, false, ◌||◌, if◌then◌else◌, List, [], ◌∷◌, map, Option, Some, None, Result, OnOk}
use Rattle.std.specs.List.{flat_map}
use Rattle.org_base.specs.Spans.{bytes_in}
use Rattle.org_base.specs.Words.{is_blank}
use Rattle.org_base.specs.declared.span.Span.{Span}
use Rattle.org_lines.specs.Cuts.{lines, lines_in}
use Rattle.org_lines.specs.declared.lines.Line.{Line}
use Rattle.org_stamp.specs.Pair.{is_planning}
use Rattle.org_class.specs.Drawers.{classes_below}
use Rattle.org_class.specs.Heading.{begins_heading}
use Rattle.org_class.specs.LineClass.{is_comment, line_class}
use Rattle.org_class.specs.Sections.{sections}
use Rattle.org_class.specs.declared.class.Class.{Class}
use Rattle.org_class.specs.declared.class.Class.TheVariants.{Heading, Planning, Setting}

-- the classes of the lines under a heading: a planning line may stand directly under it
abbrev pub classes_under_heading : List (List ℕ) → List Class
classes_under_heading [] = []
classes_under_heading (l ∷ ls) = if is_planning l then Planning ∷ classes_below ls else classes_below (l ∷ ls)

-- what may stand before the drawer of the lines before the first heading
abbrev pub is_leading : List ℕ → Bool
is_leading l = is_comment l || is_blank l

-- the classes of the lines before the first heading: comment lines and blank lines may stand before a drawer
abbrev pub front_classes : List (List ℕ) → List Class
front_classes [] = []
front_classes (l ∷ ls) = if is_leading l then line_class l ∷ front_classes ls else classes_below (l ∷ ls)

-- the classes of the lines of a section
abbrev pub classes : List (List ℕ) → List Class
classes [] = []
classes (l ∷ ls) = if begins_heading l then Heading ∷ classes_under_heading ls else front_classes (l ∷ ls)

-- the classes of a section's lines
abbrev pub section_classes : List ℕ → List Class
section_classes s = classes (lines s)

-- the classes of the lines of a section of a text
abbrev pub classes_in : List ℕ → Span → List Class
classes_in text section = section_classes (bytes_in text section)

-- the class of setting lines
abbrev pub is_setting_class : Class → Bool
is_setting_class Setting = true
is_setting_class _ = false

-- the line, if it is of class Setting
abbrev pub setting_of : Option Class → List ℕ → List (List ℕ)
setting_of None l = []
setting_of (Some c) l = if is_setting_class c then l ∷ [] else []

-- of lines with these classes, those of class Setting
abbrev pub lines_of_setting : List (List ℕ) → List Class → List (List ℕ)
lines_of_setting (l ∷ ls) (c ∷ cs) = if is_setting_class c then l ∷ lines_of_setting ls cs else lines_of_setting ls cs
lines_of_setting _ _ = []

-- a line that was read, if it is of class Setting
abbrev pub setting_line : Option Class → Line → List (List ℕ)
setting_line class line = setting_of class (cow_slice_items line.bytes)

-- the lines of class Setting of a section of a text stand after the texts, unless that is refused
abbrev pub GainsSettings : {T E : Type 0} → Result T E → List (List ℕ) → List (List ℕ) → List ℕ → Span → List Class → Type 0
GainsSettings result old new text section cs = OnOk result (new ≡ old ++ lines_of_setting (lines_in text section) cs)

-- what stood there stands there still, with more after it
abbrev pub StandStill : List (List ℕ) → List (List ℕ) → Type 0
StandStill old new = (more : List (List ℕ)) × (new ≡ old ++ more)

-- a section's setting lines
abbrev pub section_settings : List ℕ → List (List ℕ)
section_settings s = lines_of_setting (lines s) (section_classes s)

-- a text's setting lines, in order
abbrev pub setting_lines : List ℕ → List (List ℕ)
setting_lines t = flat_map section_settings (sections t)

-- the classes of the lines of each section of a text
abbrev pub text_classes : List ℕ → List (List Class)
text_classes t = map section_classes (sections t)
