-- Words of the proofs about Step: parts of its definitions.
use Rattle.std.specs.Option.{ok_or}
use Rattle.org_complete.specs.Chained.{and_then}
use Rattle.std.specs.Prelude.{ℕ, Bool, List, if◌then◌else◌, Option, Result, Ok, Err, ◌==◌, ◌&&◌, length}
use Rattle.org_cal.specs.declared.moment.Moment.{Moment}
use Rattle.org_complete.specs.Completion.{completed}
use Rattle.org_base.specs.declared.profile.Profile.{Profile}
use Rattle.org_base.specs.declared.fault.Fault.{Fault}
use Rattle.org_engine.specs.World.{FileView, State, WorldView}
use Rattle.org_engine.specs.declared.question.Form.{Form}
use Rattle.org_engine.specs.Step.{Query, Reply, Outcome, refused, tells, render_view, Refused}
use Rattle.org_base.specs.declared.code.Code.TheVariants as code
use Rattle.org_base.specs.declared.fault.Fault.TheVariants as fault

-- the text that a session saw: the file's, if its serial is the one that the session names
abbrev pub text_at : ℕ → Option FileView → Result (List ℕ) Fault
text_at serial found = and_then (λ file. if file.serial == serial then Ok file.text else Err (fault.Stale file.serial)) (ok_or found (fault.Plain code.Unknown))

-- a text with the heading on a line completed, unless that is refused
abbrev pub completed_at : ℕ → List ℕ → Moment → Result (List ℕ) Fault → Result (List ℕ) Fault
completed_at line keyword moment seen = and_then (λ text. completed text line keyword moment) seen

-- the outcome of another profile, which must come before all files and pins
abbrev pub profiled : Profile → State → Bool → Outcome
profiled p s unused = if unused then tells (record s { world = record s.world { profile = p } }) else refused (fault.Plain code.Late) s

-- neither files nor pins
abbrev pub is_unused : State → Bool
is_unused s = (length s.world.files == 0) && (length s.pins == 0)

-- the world that a session keeps, if it keeps one
abbrev pub kept_world : Option WorldView → Result WorldView Fault
kept_world found = ok_or found (fault.Plain code.Unpinned)

-- the reply to a question, or why its world can't be asked
abbrev pub answer : Form → Query → Result WorldView Fault → Reply
answer form question world = elim world [ Err f ↦ Refused f | Ok w ↦ render_view form question w ]
