-- Why completing a heading is refused, in order (Org manual 9.6, "Repeated tasks"; the order: profile).
use Rattle.std.specs.Prelude.{◌≡◌, ◌↔◌, ℕ, Bool, false, ◌&&◌, ◌||◌, not, nat_lt, if◌then◌else◌, List, [], ◌∷◌, length, Option, None, Some, Result, Ok, Err, is_none, is_some}
use Rattle.org_base.specs.Reasons.{Reason, first_of}
use Rattle.org_base.specs.declared.code.Code.TheVariants as code
use Rattle.org_base.specs.declared.fault.Fault.{Fault}
use Rattle.org_base.specs.declared.fault.Fault.TheVariants.{Plain}
use Rattle.org_base.specs.declared.span.Span.{Span}
use Rattle.org_cal.specs.declared.moment.Moment.{Moment}
use Rattle.org_drawer.specs.declared.planning.Planning.{Planning}
use Rattle.org_entry.specs.Entry.{entry_of}
use Rattle.org_entry.specs.Planning.{entry_planning}
use Rattle.org_entry.specs.declared.entry.Entry.{Entry}
use Rattle.org_complete.specs.Completion.{completed, completion_parts, lacks, line_start, section_at, shifts}
use Rattle.org_complete.specs.Parts.{Part, with_parts}
use Rattle.org_head.specs.declared.head.Head.{Head}
use Rattle.org_repeat.specs.Shift.{shift_of}
use Rattle.org_settings.specs.Keywords.{keyword_done, keyword_place}
use Rattle.org_settings.specs.Settings.{FileSettings}
use Rattle.org_stamp.specs.declared.stamp.Stamp.{Stamp}
use Rattle.org_store.specs.Begun.{has_heading}
use Rattle.org_store.specs.Outline.{file_settings}

-- what the section says that begins with a line
abbrev pub entry_on : List ℕ → ℕ → Entry
entry_on text line = entry_of (file_settings text) (section_at text (line_start text line))

-- the head of the heading on a line, if one stands there
abbrev pub head_on : List ℕ → ℕ → Option Head
head_on text line = if has_heading text line then (entry_on text line).head else None

-- the keyword is a done one, and a stamp of the planning line shifts
abbrev pub repeats : FileSettings → ℕ → Planning → Bool
repeats settings place p = keyword_done settings.keywords place && (shifts p.scheduled || shifts p.deadline)

-- a stamp shifts, and its repeater leads to no day of the years
abbrev pub leaves : Moment → Option (Stamp × Span) → Bool
leaves now None = false
leaves now (Some s) = shifts (Some s) && is_none (shift_of s.0 now)

-- it repeats by hours, and a stamp lacks the time for that; a stamp shifts to a day behind the years
abbrev pub lacks_hours : FileSettings → Option ℕ → Option Planning → Bool
lacks_hours settings None planning = false
lacks_hours settings (Some place) None = false
lacks_hours settings (Some place) (Some p) = repeats settings place p && (lacks p.scheduled || lacks p.deadline)

abbrev pub leaves_years : Moment → FileSettings → Option ℕ → Option Planning → Bool
leaves_years now settings None planning = false
leaves_years now settings (Some place) None = false
leaves_years now settings (Some place) (Some p) = repeats settings place p && (leaves now p.scheduled || leaves now p.deadline)

-- with parts replaced the text has more than 67,108,864 bytes
abbrev pub is_too_long : List ℕ → Result (List Part) Fault → Bool
is_too_long text (Err fault) = false
is_too_long text (Ok parts) = nat_lt 67_108_864 (length (with_parts text parts))

-- why the heading on a line isn't completed: none stands there, the word is no keyword of the file, a stamp that repeats by
-- hours lacks a time, a shift leaves the years, the text would be too long
abbrev pub completion_reasons : List ℕ → ℕ → List ℕ → Moment → List Reason
completion_reasons text line keyword now =
    (not (is_some (head_on text line)), Plain code.Heading)
    ∷ (is_none (keyword_place (file_settings text).keywords keyword), Plain code.Keyword)
    ∷ (lacks_hours (file_settings text) (keyword_place (file_settings text).keywords keyword) (entry_planning (entry_on text line)), Plain code.Hours)
    ∷ (leaves_years now (file_settings text) (keyword_place (file_settings text).keywords keyword) (entry_planning (entry_on text line)), Plain code.Date)
    ∷ (is_too_long text (completion_parts text line keyword now), Plain code.Size) ∷ []

-- completing a heading is refused exactly where a reason holds, and with the first one's fault
abbrev pub RefusalsComeInOrder : Type 0
RefusalsComeInOrder = (text : List ℕ) (line : ℕ) (keyword : List ℕ) (now : Moment) (fault : Fault) →
    (completed text line keyword now ≡ Err fault) ↔ (first_of (completion_reasons text line keyword now) ≡ Some fault)
