-- Acts on the clock of a heading (Org manual 9.6, "Clocking Work Time"; where lines go and how they look: profile, as Org
-- does it).
use Rattle.std.specs.Prelude.{◌≡◌, ◌≢◌, ℕ, ◌+◌, ◌-◌, Bool, ◌&&◌, ◌==◌, not, nat_le, nat_lt, if◌then◌else◌, List, [], length, slice_index, Option, Some, None, Result, Ok, Err, IfOk}
use Rattle.org_act.specs.Changes.{LiesIn, no_memory}
use Rattle.org_act.specs.Completing.{no_heading}
use Rattle.org_act.specs.Laws.{answered}
use Rattle.org_act.specs.declared.act.Refusal.{Refusal}
use Rattle.org_act.specs.declared.act.Refusal.TheVariants as refusal
use Rattle.org_store.specs.declared.change.OwnedChange.{OwnedChange}
use Rattle.org_act.specs.declared.clock_act.ClockAct.{ClockAct}
use Rattle.org_act.specs.declared.clock_act.ClockStep.{ClockStep}
use Rattle.org_act.specs.declared.clock_act.ClockStep.TheVariants.{In, Out, Cancel}
use Rattle.org_amend.specs.Begun.{clock_drawer, clock_line, line_break}
use Rattle.org_amend.specs.Cancelled.{cancelled_part}
use Rattle.org_amend.specs.Clocks.{end_text, minute_at, running_in}
use Rattle.org_amend.specs.Places.{clock_place}
use Rattle.org_amend.specs.declared.place.ClockPlace.{ClockPlace}
use Rattle.org_amend.specs.declared.place.ClockPlace.TheVariants.{InDrawer, UnderFront}
use Rattle.org_amend.specs.declared.running.RunningClock.{RunningClock}
use Rattle.org_base.specs.Spans.{bytes_in}
use Rattle.org_base.specs.declared.fault.Fault.{Fault}
use Rattle.org_base.specs.declared.span.Span.{Span}
use Rattle.org_cal.specs.declared.moment.Moment.{Moment}
use Rattle.org_class.specs.Classes.{classes_in}
use Rattle.org_complete.specs.Completion.{line_start, replaced, section_at, sized}
use Rattle.org_complete.specs.Parts.{Part}
use Rattle.org_complete.specs.Written.{part_of}
use Rattle.org_store.specs.Begun.{has_heading}

-- the section that begins at a place of a text, as a part of it
abbrev pub section_part : List ℕ → ℕ → Span
section_part text at = record { at = at; len = length (section_at text at) }

-- the section of the heading on a line
abbrev pub section_on : List ℕ → ℕ → Result Span Refusal
section_on text line = if not (has_heading text line) then Err no_heading else Ok (section_part text (line_start text line))

-- the line before a place of a text is ended
abbrev pub is_ended : List ℕ → ℕ → Bool
is_ended text at = nat_lt 0 at && (slice_index text (at - 1) == 10)

-- a text is put in at a place
abbrev pub inserted_at : ℕ → List ℕ → Part
inserted_at at ins = record { at = at; del = 0; ins = ins }

-- a clock begins at a moment at a place of a section
abbrev pub begun_at : List ℕ → Span → Moment → ClockPlace → Part
begun_at text section now (InDrawer opening) =
    inserted_at (opening.at + opening.len) (clock_line now (bytes_in text opening) (line_break (bytes_in text section)))
begun_at text section now (UnderFront at) =
    inserted_at at (clock_drawer now (is_ended text at) (line_break (bytes_in text section)))

-- the same at its own place: first in the drawer, or in one that is made
abbrev pub begun_in : List ℕ → Span → Moment → Part
begun_in text section now = begun_at text section now (clock_place text section (classes_in text section))

-- a clock ends at a moment, unless it began later
abbrev pub ended_at : Moment → RunningClock → Result Part Refusal
ended_at now clock =
    if nat_le clock.from (minute_at now)
    then Ok (inserted_at clock.end (end_text now (minute_at now - clock.from)))
    else Err (refusal.EndsEarly clock.from)

-- a part of a text goes
abbrev pub without : Span → Part
without span = record { at = span.at; del = span.len; ins = [] }

-- what a step replaces of a section whose first running clock, if one runs, is found
abbrev pub step_part : ClockStep → List ℕ → Span → Option RunningClock → Result Part Refusal
step_part (In now) text section None = Ok (begun_in text section now)
step_part (In now) text section (Some clock) = Err refusal.ClockRuns
step_part (Out now) text section None = Err refusal.NoClock
step_part (Out now) text section (Some clock) = ended_at now clock
step_part Cancel text section None = Err refusal.NoClock
step_part Cancel text section (Some clock) = Ok (without (cancelled_part text section (classes_in text section) clock))

-- the text with a part replaced, unless this is refused or the text gets too long
abbrev pub with_part : List ℕ → Result Part Refusal → Result (List ℕ) Refusal
with_part text (Err why) = Err why
with_part text (Ok part) = answered (replaced text part.at part.del part.ins)

-- the text with the step done in a section
abbrev pub step_in : ClockStep → List ℕ → Span → Result (List ℕ) Refusal
step_in step text section = with_part text (step_part step text section (running_in text section (classes_in text section)))

-- the same in the section of a heading, unless none is there
abbrev pub step_on : ClockStep → List ℕ → Result Span Refusal → Result (List ℕ) Refusal
step_on step text (Err why) = Err why
step_on step text (Ok section) = step_in step text section

-- the act done in a text
abbrev pub clocked_by : ClockAct → List ℕ → Result (List ℕ) Refusal
clocked_by act text = step_on act.step text (section_on text act.line)

-- the same, unless the text is too long
abbrev pub clocked_in : ClockAct → Result (List ℕ) Fault → Result (List ℕ) Refusal
clocked_in act (Err fault) = Err (refusal.Fault fault)
clocked_in act (Ok text) = clocked_by act text

-- what an act on the clock of a heading makes of a text, or why it is refused
unfoldable pub clocked_text : ClockAct → List ℕ → Result (List ℕ) Refusal
clocked_text act text = clocked_in act (sized text)

-- what is found of a text, unless memory is refused
abbrev pub Finds : {T : Type 0} → Result T Refusal → Result T Refusal → Type 0
Finds (Ok found) wanted = wanted ≡ Ok found
Finds (Err why) wanted = why ≢ no_memory → wanted ≡ Err why

-- a change that replaces this, unless that is refused
abbrev pub GivesPart : {E : Type 0} → Result OwnedChange E → Part → Type 0
GivesPart result part = IfOk result (λ change. part_of change ≡ part)

-- a change that lies in a text and replaces the wanted part, or the refusal that is wanted, unless memory is refused
abbrev pub Replaces : Result OwnedChange Refusal → List ℕ → Result Part Refusal → Type 0
Replaces (Ok change) text wanted = LiesIn text change × (wanted ≡ Ok (part_of change))
Replaces (Err why) text wanted = why ≢ no_memory → wanted ≡ Err why
