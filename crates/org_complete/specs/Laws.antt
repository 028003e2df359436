-- Laws of completed tasks (Org manual 9.6, "Repeated tasks").
use Rattle.std.specs.Prelude.{◌≡◌, ◌⊎◌, ◌<◌, ◌≤◌, ℕ, true, List, length, Option, None, Some, Ok, is_some}
use Rattle.std.specs.Str.{IsUtf8}
use Rattle.org_base.specs.declared.span.Span.{Span}
use Rattle.org_cal.specs.declared.moment.Moment.{Moment}
use Rattle.org_class.specs.Sections.{sections}
use Rattle.org_drawer.specs.declared.planning.Planning.{Planning}
use Rattle.org_complete.specs.Completion.{keyword_plan, section_parts}
use Rattle.org_complete.specs.Parts.{AreApart, Part}
use Rattle.org_complete.specs.declared.plan.Plan.{Plan}
use Rattle.org_complete.specs.declared.plan.Shift.{Shift}
use Rattle.org_store.specs.Begun.{entry_there, section_start}
use Rattle.org_store.specs.Outline.{file_settings}
use Rattle.org_repeat.specs.Shift.{shift_answer}
use Rattle.org_settings.specs.Keywords.{keyword_done, keyword_first}
use Rattle.org_settings.specs.Settings.{FileSettings}
use Rattle.org_stamp.specs.declared.stamp.Stamp.{Stamp}
use Rattle.org_text.specs.Replace.{max_bytes}

-- what a completion of a heading replaces stands in the text, one part after the other
abbrev pub CompletionsAreApart : Type 0
CompletionsAreApart = (text : List ℕ) (place : ℕ) (keyword : List ℕ) (now : Moment) (parts : List Part) →
    IsUtf8 text → length text ≤ max_bytes → place < length (sections text) →
    section_parts (section_start text place) now (file_settings text) keyword (entry_there text place) ≡ Ok parts → AreApart 0 (length text) parts

-- a stamp of a planning line repeats: it is there, active, and has a repeater
abbrev pub IsRepeated : Option (Stamp × Span) → Type 0
IsRepeated None = ⊥
IsRepeated (Some s) = (s.0.active ≡ true) × (is_some s.0.repeater ≡ true)

-- a task repeats where its new keyword is a done one and one of its stamps repeats
abbrev pub Repeats : FileSettings → ℕ → Planning → Type 0
Repeats settings place p = (keyword_done settings.keywords place ≡ true) × (IsRepeated p.scheduled ⊎ IsRepeated p.deadline)

-- a stamp that repeats is shifted in its place, and any other stays
pub record IsShifted (now : Moment) (s : Stamp × Span) (shift : Option Shift) : Type 0 where
  pub repeated : IsRepeated (Some s) → (new : Stamp) × (shift_answer s.0 now ≡ Ok new) × (shift ≡ Some (record { span = s.1; stamp = new }))
  pub single : (IsRepeated (Some s) → ⊥) → shift ≡ None

-- a stamp that may be missing is shifted in its place if it repeats; without one there is no shift
abbrev pub IsShiftOf : Moment → Option (Stamp × Span) → Option Shift → Type 0
IsShiftOf now None shift = shift ≡ None
IsShiftOf now (Some s) shift = IsShifted now s shift

-- these are the shifts of a planning line, whichever stands first
pub record AreShifts (now : Moment) (p : Planning) (shifts : Option Shift × Option Shift) : Type 0 where
  pub scheduled : Option Shift
  pub deadline : Option Shift
  pub of_scheduled : IsShiftOf now p.scheduled scheduled
  pub of_deadline : IsShiftOf now p.deadline deadline
  pub are : (shifts ≡ (scheduled, deadline)) ⊎ (shifts ≡ (deadline, scheduled))

-- of a task that repeats the first keyword of the given one's sequence is written, and its repeated stamps shift; of any other
-- the given keyword is written, and no stamp shifts
pub record IsWritten (now : Moment) (settings : FileSettings) (place : ℕ) (p : Planning) (plan : Plan) : Type 0 where
  pub repeated : Repeats settings place p → (plan.keyword ≡ keyword_first settings.keywords place) × AreShifts now p plan.shifts
  pub single : (Repeats settings place p → ⊥) → plan ≡ record { keyword = place; shifts = (None, None) }

-- where a plan isn't refused: of a task that repeats, the first keyword of the sequence is written and repeated stamps
-- shift; of any other the given keyword is written, and no stamp shifts
abbrev pub KeywordsAreWritten : Type 0
KeywordsAreWritten = (now : Moment) (settings : FileSettings) (place : ℕ) (p : Planning) (plan : Plan) → keyword_plan now settings place (Some p) ≡ Ok plan → IsWritten now settings place p plan
