-- Worked examples: what the definitions say of inputs at which a wrong rule says something else.
use Rattle.std.specs.Prelude.{◌≡◌, Some, None, true, false, codes}
use Rattle.org_log.specs.Decisions.{decide}
use Rattle.org_log.specs.Marks.{marks_of, no_marks}
use Rattle.org_log.specs.declared.decision.LineKind.TheVariants.{Closing, Nothing, Repeated, State}
use Rattle.org_log.specs.declared.decision.Step.{Step}
use Rattle.org_log.specs.declared.decision.Wanted.{Wanted}
use Rattle.org_log.specs.declared.entry.Repeats.TheVariants.{Always, Not}
use Rattle.org_log.specs.declared.how.How.TheVariants.{Note, Time}

-- an open heading is done
abbrev pub done_step : Step
done_step = record { is_done = true; was_done = false; was_open = true; had_keyword = true; repeats = false; has_note = false }

-- a file says nothing, and Org's own rules hold
abbrev pub nothing_said : Wanted
nothing_said = record { done = None; repeat = Some Time; has_marks = false; state = None; again = None }

-- a key may be missing, and two marks want a slash; nothing is written of a heading that is done where a file says nothing, but
-- a task that comes again is logged; `lognotedone` asks for a line of its own only where no keyword asks for one; `CLOSED:` goes
-- with an open keyword only where a file asks for something
pub record ExamplesHold : Type 0 where
  pub key_and_marks : marks_of (codes "w@/!") ≡ record { entering = Some Note; leaving = Some Time }
  pub leaving_alone : marks_of (codes "/!") ≡ record { entering = None; leaving = Some Time }
  pub key_alone : marks_of (codes "t") ≡ no_marks
  pub two_marks : marks_of (codes "!!") ≡ no_marks
  pub done_unsaid : decide done_step nothing_said ≡ record { is_closed = false; is_reopened = false; repeats = Not; line = Nothing }
  pub comes_again : decide (record done_step { repeats = true }) nothing_said
      ≡ record { is_closed = false; is_reopened = true; repeats = Always; line = Repeated }
  pub done_by_time : decide done_step (record nothing_said { done = Some Time })
      ≡ record { is_closed = true; is_reopened = false; repeats = Not; line = Nothing }
  pub done_by_note : decide done_step (record nothing_said { done = Some Note })
      ≡ record { is_closed = true; is_reopened = false; repeats = Not; line = Closing }
  pub done_with_a_mark : decide done_step (record nothing_said { done = Some Note; has_marks = true; state = Some Time })
      ≡ record { is_closed = true; is_reopened = false; repeats = Not; line = State }
  pub open_again : decide (record done_step { is_done = false; was_done = true; was_open = false }) (record nothing_said { done = Some Time })
      ≡ record { is_closed = false; is_reopened = true; repeats = Not; line = Nothing }
  pub open_again_unsaid : decide (record done_step { is_done = false; was_done = true; was_open = false }) nothing_said
      ≡ record { is_closed = false; is_reopened = false; repeats = Not; line = Nothing }
  pub with_a_note : decide (record done_step { has_note = true }) nothing_said
      ≡ record { is_closed = false; is_reopened = false; repeats = Not; line = State }
