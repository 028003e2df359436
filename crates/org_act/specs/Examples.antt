-- Worked examples: what the definitions say of ordinary inputs, and of those at which a wrong rule says something else.
use Rattle.std.specs.Prelude.{◌≡◌, ◌++◌, ◌+◌, ℕ, true, false, List, [], codes, Some, None, Ok, Err, Result, ◌∷◌, map}
use Rattle.org_act.specs.Adding.{gap_behind, spot_of}
use Rattle.org_act.specs.Clocking.{inserted_at, section_on, step_part, without}
use Rattle.org_act.specs.Completing.{done_word, no_heading, own_text}
use Rattle.org_act.specs.Lines.{heading_at}
use Rattle.org_act.specs.Moved.{moved_pairs, stamp_bytes}
use Rattle.org_act.specs.Planning.{planned_on, planned_text}
use Rattle.org_act.specs.Several.{amended_in_turn}
use Rattle.org_act.specs.TakingBack.{Made, text_before}
use Rattle.org_act.specs.declared.act.Refusal.{Refusal}
use Rattle.org_act.specs.declared.act.Refusal.TheVariants.{ClockRuns, Edited, Misread, NoClock, NoDone}
use Rattle.org_act.specs.declared.clock_act.ClockStep.TheVariants.{In, Out, Cancel}
use Rattle.org_amend.specs.Begun.{clock_drawer, clock_line}
use Rattle.org_amend.specs.Clocks.{running_in}
use Rattle.org_amend.specs.declared.running.RunningClock.{RunningClock}
use Rattle.org_class.specs.Classes.{classes_in}
use Rattle.org_cal.specs.declared.moment.Moment.{Moment}
use Rattle.org_complete.specs.Completion.{completed, completion_part}
use Rattle.org_stamp.specs.declared.pair.PlanningKeyword.TheVariants.{Scheduled}

-- what completing the heading on a line by a word makes of a text, with a line after it that is no part of it
abbrev pub completed_beside : List ℕ → List ℕ → ℕ → List ℕ → Moment → Result (List ℕ) Refusal
completed_beside text behind line word now = own_text text behind (completed (text ++ behind) line word now) (completion_part (text ++ behind) line word now)

-- the clock of a line at a place, which runs since some minute
abbrev pub clock_at : ℕ → ℕ → ℕ → RunningClock
clock_at at len from = record { at = at; len = len; end = at + len; from = from }

-- a heading is completed, also by a keyword that only the line after the text names, which isn't written. A heading that
-- stands after the text is refused. The first done keyword is that of the heading's sequence, of the first sequence where
-- the heading has none, and there may be none.
-- The section of a heading is found by its line. A clock begins in a drawer that is made under the heading, or first in the
-- one that is there; lines end as the heading's does, and not behind a last line without an end. A clock in a block is none.
-- One that runs is refused, and so is ending none; a drawer that is emptied goes
pub record ExamplesHold : Type 0 where
  pub plain : (now : Moment) → completed_beside (codes "* TODO A\n") [] 1 (codes "DONE") now ≡ Ok (codes "* DONE A\n")
  pub beside : (now : Moment) → completed_beside (codes "* WAIT A") (codes "\n#+TODO: WAIT | OVER\n") 1 (codes "OVER") now ≡ Ok (codes "* OVER A")
  pub behind : (now : Moment) → completed_beside (codes "* A\n") (codes "* TODO B\n") 2 (codes "DONE") now ≡ Err no_heading
  pub of_sequence : done_word (codes "#+TODO: A | B\n#+TODO: C | D E\n* C x\n") 3 ≡ Ok (codes "D")
  pub of_first : done_word (codes "* x\n") 1 ≡ Ok (codes "DONE")
  pub none_done : done_word (codes "#+TODO: A B |\n* A x\n") 2 ≡ Err NoDone
  pub of_line : section_on (codes "a\n* A\nb\n* C\n") 2 ≡ Ok (record { at = 2; len = 6 })
  pub begun : (now : Moment) → step_part (In now) (codes "* A\nb\n") (record { at = 0; len = 6 }) None ≡ Ok (inserted_at 4 (clock_drawer now true (codes "\n")))
  pub begun_last : (now : Moment) → step_part (In now) (codes "* A") (record { at = 0; len = 3 }) None ≡ Ok (inserted_at 3 (clock_drawer now false (codes "\n")))
  pub begun_first : (now : Moment) → step_part (In now) (codes "* A\n  :LOGBOOK:\n  :END:\n") (record { at = 0; len = 24 }) None ≡ Ok (inserted_at 16 (clock_line now (codes "  :LOGBOOK:\n") (codes "\n")))
  pub returns_kept : (now : Moment) → step_part (In now) (codes "* A\r\n") (record { at = 0; len = 5 }) None ≡ Ok (inserted_at 5 (clock_drawer now true (codes "\r\n")))
  pub in_block : running_in (codes "* A\n#+BEGIN_X\nCLOCK: [2024-02-28 Wed 09:00]\n#+END_X\n") (record { at = 0; len = 52 }) (classes_in (codes "* A\n#+BEGIN_X\nCLOCK: [2024-02-28 Wed 09:00]\n#+END_X\n") (record { at = 0; len = 52 })) ≡ None
  pub begun_twice : (now : Moment) (from : ℕ) → step_part (In now) (codes "* A\nc\n") (record { at = 0; len = 6 }) (Some (clock_at 4 2 from)) ≡ Err ClockRuns
  pub none_ends : (now : Moment) → step_part (Out now) (codes "* A\n") (record { at = 0; len = 4 }) None ≡ Err NoClock
  pub emptied : (from : ℕ) → step_part Cancel (codes "* A\n:LOGBOOK:\nc\n:END:\n") (record { at = 0; len = 22 }) (Some (clock_at 14 2 from)) ≡ Ok (without (record { at = 4; len = 18 }))
  pub one_of_two : (from : ℕ) → step_part Cancel (codes "* A\n:LOGBOOK:\nc\nd\n:END:\n") (record { at = 0; len = 24 }) (Some (clock_at 14 2 from)) ≡ Ok (without (record { at = 14; len = 2 }))

-- a keyword that became another
abbrev pub done : Made
done = record { at = 2; deleted = codes "TODO"; inserted = codes "DONE"; left = codes "* DONE a\n" }

-- a heading is found by its line, and a line of text is none; without its stamp a planning line goes, unless what stands behind it
-- would be a heading. A heading goes behind the last one below another, one level deeper, or behind all others, after a line
-- feed where the text has none. Two headings lose their stamps at once, the lower one first; where one line has no heading, none
-- does. Of the stamps of a planning line those that repeat have moved. What an act left goes back,
-- and a text that was edited doesn't
pub record ActExamplesHold : Type 0 where
  pub on_its_line : heading_at (codes "a\n* b\n") 2 ≡ Some 2
  pub on_none : heading_at (codes "a\n* b\n") 1 ≡ None
  pub unscheduled : planned_text (record { line = 1; keyword = Scheduled; date = None }) (codes "* a\nSCHEDULED: <2024-02-01 Thu>\nb\n") ≡ Ok (codes "* a\nb\n")
  pub not_read_so : planned_text (record { line = 1; keyword = Scheduled; date = None }) (codes "* a\nSCHEDULED: <2024-02-01 Thu> * b\n") ≡ Err Misread
  pub below : spot_of (codes "* a\n** b\n*** c\n** d\n") (Some 2) ≡ Some (record { at = 15; level = 3 })
  pub behind_all : spot_of (codes "* a") None ≡ Some (record { at = 3; level = 1 })
  pub unended : gap_behind (codes "* a") ≡ codes "\n"
  pub two_at_once : amended_in_turn (planned_on (record { line = 1; keyword = Scheduled; date = None })) (3 ∷ (1 ∷ [])) (codes "* a\nSCHEDULED: <2024-02-01 Thu>\n* b\nSCHEDULED: <2024-02-02 Fri>\n") ≡ Ok (codes "* a\n* b\n")
  pub one_refused : amended_in_turn (planned_on (record { line = 1; keyword = Scheduled; date = None })) (1 ∷ (2 ∷ [])) (codes "* a\nSCHEDULED: <2024-02-01 Thu>\nb\n") ≡ Err no_heading
  pub one_moved : map (stamp_bytes (codes "SCHEDULED: <2024-02-08 Thu +1w> DEADLINE: <2024-02-02 Fri>")) (moved_pairs (codes "SCHEDULED: <2024-02-01 Thu +1w> DEADLINE: <2024-02-02 Fri>") (codes "SCHEDULED: <2024-02-08 Thu +1w> DEADLINE: <2024-02-02 Fri>")) ≡ codes "<2024-02-08 Thu +1w>" ∷ []
  pub back : text_before done (codes "* DONE a\n") ≡ Ok (codes "* TODO a\n")
  pub edited : text_before done (codes "* DONE a\n\n") ≡ Err Edited
