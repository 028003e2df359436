-- What the steps of an act on a clock are given, and what they replace of it.
use Rattle.std.specs.Prelude.{◌≡◌, ◌+◌, ◌≤◌, length, Option, Result}
use Rattle.org_act.specs.Clocking.{begun_at, begun_in, step_part, without}
use Rattle.org_act.specs.declared.act.Refusal.{Refusal}
use Rattle.org_act.specs.declared.clock_act.ClockStep.{ClockStep}
use Rattle.org_act.specs.declared.clock_section.ClockSection.{ClockSection}
use Rattle.org_amend.specs.Cancelled.{cancelled_part}
use Rattle.org_amend.specs.declared.place.ClockPlace.{ClockPlace}
use Rattle.org_amend.specs.declared.running.RunningClock.{RunningClock}
use Rattle.org_cal.specs.declared.moment.Moment.{Moment}
use Rattle.org_class.specs.Classes.{classes_in}
use Rattle.org_complete.specs.Parts.{Part}
use Rattle.org_text.specs.Replace.{max_bytes}

-- the text is that of the file and not too long, the section lies in it, and the classes are those of its lines
pub record IsSection (s : ClockSection) : Type 0 where
  pub text : s.whole.now ≡ s.text.now
  pub fits : length s.text.now ≤ max_bytes
  pub within : s.span.at + s.span.len ≤ length s.text.now
  pub classes : s.classes.now ≡ classes_in s.text.now s.span

-- what a step replaces of it
abbrev pub part_for : ClockSection → ClockStep → Option RunningClock → Result Part Refusal
part_for s step clock = step_part step s.text.now s.span clock

-- where a clock begins
abbrev pub begun_part : ClockSection → Moment → Part
begun_part s now = begun_in s.text.now s.span now

-- the same at a place
abbrev pub begun_part_at : ClockSection → Moment → ClockPlace → Part
begun_part_at s now place = begun_at s.text.now s.span now place

-- what goes with a clock
abbrev pub cancelled_with : ClockSection → RunningClock → Part
cancelled_with s clock = without (cancelled_part s.text.now s.span s.classes.now clock)
