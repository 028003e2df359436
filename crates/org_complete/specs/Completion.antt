-- Completing a heading: its keyword, and its repeated stamps (Org manual 9.6, "Repeated tasks"; where the keyword goes,
-- and which one is written: profile).
use Rattle.std.specs.Option.{option_map, option_to_list, ok_or, option_map_or}
use Rattle.org_complete.specs.Chained.{and_then}
use Rattle.std.specs.Prelude.{ℕ, ◌+◌, ◌-◌, Bool, false, ◌&&◌, ◌||◌, not, nat_lt, if◌then◌else◌, List, [], ◌∷◌, ◌++◌, length, take, drop, get_or, codes, Option, Some, None, Result, Ok, Err, is_some}
use Rattle.std.specs.List.{concat, prefix_len}
use Rattle.org_base.specs.Words.{is_space}
use Rattle.org_base.specs.declared.code.Code.TheVariants as code
use Rattle.org_base.specs.declared.fault.Fault.{Fault}
use Rattle.org_base.specs.declared.fault.Fault.TheVariants.{Plain}
use Rattle.org_base.specs.declared.span.Span.{Span}
use Rattle.org_cal.specs.declared.moment.Moment.{Moment}
use Rattle.org_class.specs.Heading.{stars}
use Rattle.org_class.specs.Sections.{sections}
use Rattle.org_drawer.specs.declared.planning.Planning.{Planning}
use Rattle.org_entry.specs.Entry.{entry_of, heading_line}
use Rattle.org_entry.specs.declared.entry.Entry.{Entry}
use Rattle.org_entry.specs.Planning.{entry_planning}
use Rattle.org_complete.specs.Parts.{Part, one_part, with_parts}
use Rattle.org_complete.specs.declared.plan.Plan.{Plan}
use Rattle.org_complete.specs.declared.plan.Shift.{Shift}
use Rattle.org_store.specs.Begun.{entry_there, has_heading, section_start}
use Rattle.org_store.specs.Outline.{file_settings}
use Rattle.org_lines.specs.Cuts.{lines}
use Rattle.org_repeat.specs.Shift.{shift_answer}
use Rattle.org_repeat.specs.Shifted.{lacks_time}
use Rattle.org_settings.specs.Keywords.{keyword_place, keyword_done, keyword_first, keyword_word}
use Rattle.org_settings.specs.Settings.{FileSettings}
use Rattle.org_stamp.specs.Print.{stamp_text}
use Rattle.org_stamp.specs.declared.stamp.Stamp.{Stamp}
use Rattle.org_text.specs.Replace.{max_bytes, replace}

-- the stamp shifts when its task is done
abbrev pub shifts : Option (Stamp × Span) → Bool
shifts None = false
shifts (Some s) = s.0.active && is_some s.0.repeater

-- the stamp would shift, and can't for want of a time
abbrev pub lacks : Option (Stamp × Span) → Bool
lacks found = option_map_or (λ s. shifts (Some s) && lacks_time s.0) found false

-- the shift of a stamp at a moment, if it shifts: the stamp that takes its place, unless that is refused
abbrev pub shift_at : Moment → Option (Stamp × Span) → Result (Option Shift) Fault
shift_at now None = Ok None
shift_at now (Some s) = if shifts (Some s) then and_then (λ stamp. Ok (Some (record { span = s.1; stamp = stamp }))) (shift_answer s.0 now) else Ok None

-- two shifts in the order of their places
abbrev pub by_place : Option Shift → Option Shift → Option Shift × Option Shift
by_place None b = (None, b)
by_place (Some a) None = (Some a, None)
by_place (Some a) (Some b) = if nat_lt a.span.at b.span.at then (Some a, Some b) else (Some b, Some a)

-- the plan by which a keyword is written and no stamp shifts
abbrev pub plain_plan : ℕ → Plan
plain_plan place = record { keyword = place; shifts = (None, None) }

-- the plan by which a keyword is written and stamps shift; that one of them lacks a time is refused before all else
abbrev pub repeat_plan : Moment → ℕ → Planning → Result Plan Fault
repeat_plan now place p =
    if lacks p.scheduled || lacks p.deadline then Err (Plain code.Hours)
    else and_then (λ a. and_then (λ b. Ok (record { keyword = place; shifts = by_place a b })) (shift_at now p.deadline)) (shift_at now p.scheduled)

-- what the keyword at a place of the file's does. Where it is done and a stamp repeats, the first keyword of its sequence
-- is written and stamps shift; else it is written itself
abbrev pub keyword_plan : Moment → FileSettings → ℕ → Option Planning → Result Plan Fault
keyword_plan now settings place None = Ok (plain_plan place)
keyword_plan now settings place (Some p) =
    if keyword_done settings.keywords place && (shifts p.scheduled || shifts p.deadline)
    then repeat_plan now (keyword_first settings.keywords place) p
    else Ok (plain_plan place)

-- what a keyword does, by its name; a word that is none of the file's is refused
abbrev pub plan_for : Moment → FileSettings → Option Planning → List ℕ → Result Plan Fault
plan_for now settings planning keyword =
    and_then (λ place. keyword_plan now settings place planning) (ok_or (keyword_place settings.keywords keyword) (Plain code.Keyword))

-- where the keyword of a heading line stands, or goes: after the stars and the white space that follows them
abbrev pub keyword_span : List ℕ → Option Span → Span
keyword_span line None = record { at = stars line + prefix_len is_space (drop (stars line) line); len = 0 }
keyword_span line (Some span) = span

-- what stands after a keyword that is written: a space where there was none before
abbrev pub gap_behind : Option Span → List ℕ
gap_behind None = codes " "
gap_behind (Some span) = []

-- the part of a stamp that shifts, if there is one
abbrev pub shift_part : ℕ → Option Shift → List Part
shift_part at shift = option_to_list (option_map (λ s. record { at = at + s.span.at; del = s.span.len; ins = stamp_text s.stamp }) shift)

-- the parts of a plan: the keyword's, then those of the stamps
abbrev pub plan_parts : ℕ → List ℕ → Option Span → FileSettings → Plan → List Part
plan_parts at line old settings plan = let span = keyword_span line old in
    record { at = at + span.at; del = span.len; ins = keyword_word settings.keywords plan.keyword ++ gap_behind old }
    ∷ (shift_part at plan.shifts.0 ++ shift_part at plan.shifts.1)

-- what completing an entry replaces; one without a head is no heading
abbrev pub section_parts : ℕ → Moment → FileSettings → List ℕ → Entry → Result (List Part) Fault
section_parts at now settings keyword entry =
    and_then (λ head. and_then (λ plan. Ok (plan_parts at (heading_line entry) head.keyword settings plan))
    (plan_for now settings (entry_planning entry) keyword)) (ok_or entry.head (Plain code.Heading))

-- how many bytes of a text stand before a line. Lines count from 1
abbrev pub line_start : List ℕ → ℕ → ℕ
line_start text line = length (concat (take (line - 1) (lines text)))

-- the section that begins at a place
abbrev pub section_at : List ℕ → ℕ → List ℕ
section_at text at = get_or (sections (drop at text)) 0 []

-- what a completion replaces: the keyword and the stamps that shift, or why nothing is
abbrev pub completion_parts : List ℕ → ℕ → List ℕ → Moment → Result (List Part) Fault
completion_parts text line keyword now =
    if not (has_heading text line) then Err (Plain code.Heading) else
    (let at = line_start text line in
    section_parts at now (file_settings text) keyword (entry_of (file_settings text) (section_at text at)))

-- a text, unless it is too long
abbrev pub sized : List ℕ → Result (List ℕ) Fault
sized text = if nat_lt max_bytes (length text) then Err (Plain code.Size) else Ok text

-- a text with a part replaced, unless it is too long
abbrev pub replaced : List ℕ → ℕ → ℕ → List ℕ → Result (List ℕ) Fault
replaced text at del ins = sized (replace text at del ins)

-- the text with the heading on a line completed by a keyword at a moment, or what this is refused for
unfoldable pub completed : List ℕ → ℕ → List ℕ → Moment → Result (List ℕ) Fault
completed text line keyword now = and_then (λ parts. sized (with_parts text parts)) (completion_parts text line keyword now)

-- what completing the heading on a line replaces, as one change, or why nothing is
unfoldable pub completion_part : List ℕ → ℕ → List ℕ → Moment → Result Part Fault
completion_part text line keyword now = and_then (λ parts. Ok (one_part text parts)) (completion_parts text line keyword now)

-- the same of the heading of the section at a place
abbrev pub part_at : List ℕ → ℕ → List ℕ → Moment → Result Part Fault
part_at text place keyword now =
    and_then (λ parts. Ok (one_part text parts)) (section_parts (section_start text place) now (file_settings text) keyword (entry_there text place))

-- what a plan replaces of the entry of the section at a place
abbrev pub plan_part : List ℕ → ℕ → Entry → Option Span → Plan → Part
plan_part text place entry old plan =
    one_part text (plan_parts (section_start text place) (heading_line entry) old (file_settings text) plan)

-- the text with the heading of the section at a place completed, unless that is refused
abbrev pub completed_at : List ℕ → ℕ → List ℕ → Moment → Result (List ℕ) Fault
completed_at text place keyword now =
    and_then (λ parts. sized (with_parts text parts)) (section_parts (section_start text place) now (file_settings text) keyword (entry_there text place))

-- the text with a plan written into the entry of the section at a place, unless that is too long
abbrev pub plan_written : List ℕ → ℕ → Entry → Option Span → Plan → Result (List ℕ) Fault
plan_written text place entry old plan =
    sized (with_parts text (plan_parts (section_start text place) (heading_line entry) old (file_settings text) plan))
