-- Words of the proofs about Completion: parts of its definitions.
use Rattle.std.specs.Option.{ok_or}
use Rattle.org_complete.specs.Chained.{and_then}
use Rattle.std.specs.Prelude.{ℕ, ◌+◌, List, Option, Some, Result, Ok}
use Rattle.org_base.specs.declared.fault.Fault.{Fault}
use Rattle.org_base.specs.declared.fault.Fault.TheVariants.{Plain}
use Rattle.org_base.specs.declared.span.Span.{Span}
use Rattle.org_cal.specs.declared.moment.Moment.{Moment}
use Rattle.org_drawer.specs.declared.planning.Planning.{Planning}
use Rattle.org_entry.specs.Entry.{heading_line}
use Rattle.org_entry.specs.declared.entry.Entry.{Entry}
use Rattle.org_entry.specs.Planning.{entry_planning}
use Rattle.org_complete.specs.Parts.{Part, one_part, with_parts}
use Rattle.org_complete.specs.declared.plan.Plan.{Plan}
use Rattle.org_complete.specs.declared.plan.Shift.{Shift}
use Rattle.org_head.specs.declared.head.Head.{Head}
use Rattle.org_settings.specs.Settings.{FileSettings}
use Rattle.org_stamp.specs.declared.stamp.Stamp.{Stamp}
use Rattle.org_complete.specs.Completion.{shifts, by_place, keyword_plan, plan_for, plan_parts, sized}
use Rattle.org_base.specs.declared.code.Code.TheVariants as code

-- the stamp that takes a part's place, unless its shift is refused
abbrev pub put_at : Span → Result Stamp Fault → Result (Option Shift) Fault
put_at span shifted = and_then (λ stamp. Ok (Some (record { span = span; stamp = stamp }))) shifted

-- the plan by which a keyword is written and stamps shift, unless a shift is refused
abbrev pub shift_plan : ℕ → Result (Option Shift) Fault → Result (Option Shift) Fault → Result Plan Fault
shift_plan place first second = and_then (λ a. and_then (λ b. Ok (record { keyword = place; shifts = by_place a b })) second) first

-- what a keyword does by its place among the file's; a word that is none of them is refused
abbrev pub plan_of : Moment → FileSettings → Option Planning → Option ℕ → Result Plan Fault
plan_of now settings planning found = and_then (λ place. keyword_plan now settings place planning) (ok_or found (Plain code.Keyword))

-- the part of a text that a keyword replaces, in a section that begins at a place
abbrev pub keyword_part : ℕ → Span → List ℕ → Part
keyword_part at span ins = record { at = at + span.at; del = span.len; ins = ins }

-- the parts that a plan replaces, unless the plan is refused
abbrev pub planned_parts : ℕ → List ℕ → Option Span → FileSettings → Result Plan Fault → Result (List Part) Fault
planned_parts at line old settings planned = and_then (λ plan. Ok (plan_parts at line old settings plan)) planned

-- what completing an entry replaces; one without a head is no heading
abbrev pub entry_parts : ℕ → Moment → FileSettings → List ℕ → Entry → Option Head → Result (List Part) Fault
entry_parts at now settings keyword entry found =
    and_then (λ head. planned_parts at (heading_line entry) head.keyword settings (plan_for now settings (entry_planning entry) keyword)) (ok_or found (Plain code.Heading))

-- the text with the parts replaced, unless they are refused or it gets too long
abbrev pub completed_by : List ℕ → Result (List Part) Fault → Result (List ℕ) Fault
completed_by text made = and_then (λ parts. sized (with_parts text parts)) made

-- parts as one change, unless they are refused
abbrev pub as_one : List ℕ → Result (List Part) Fault → Result Part Fault
as_one text made = and_then (λ parts. Ok (one_part text parts)) made
