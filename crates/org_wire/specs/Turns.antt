-- What holds between the turns of a run.
use Rattle.std.specs.Prelude.{◌≡◌, Bool, List, ℕ, Option, Some, Result, Ok, Err, String, string_bytes, IfSome}
use Rattle.org_base.specs.declared.fault.Fault.{Fault}
use Rattle.std.specs.Io.KnownBytes.{Appends}
use Rattle.org_base.specs.Codes.{code_of}
use Rattle.org_engine.specs.Questions.{Asks, AsksOf}
use Rattle.org_engine.specs.Marks.{AnyStamps, Classifies, Completes, Looks, NoStamps, added_count, new_count, pending_asked}
use Rattle.org_engine.specs.Step.{file_named}
use Rattle.org_engine.specs.Step as step
use Rattle.org_engine.specs.World.{EngineView, State}
use Rattle.org_engine.specs.declared.changes.Completion.{Completion}
use Rattle.org_engine.specs.declared.question.View.{View}
use Rattle.org_wire.specs.Devices.{AppendsTo}
use Rattle.org_wire.specs.Replies.{fault_bytes}
use Rattle.org_wire.specs.Run.{AnswersSo, AnswersTaken, AreReplies, IsRun, out_of_memory, shown, written}
use Rattle.org_wire.specs.Stream.{MayTakeMemory, line_of}
use Rattle.org_wire.specs.declared.command.Command.{Command}
use Rattle.org_wire.specs.declared.command.Command.TheVariants.{Add, Agenda, Clock, Complete, Edit, Match, Todo}
use Rattle.org_wire.specs.declared.command.Next.{Next}
use Rattle.org_wire.specs.declared.command.Request.{Request}
use Rattle.org_wire.specs.declared.command.Next.TheVariants.{Given, Refused, Last, Ended}
use Rattle.org_wire.specs.declared.reply.Reply.{Reply}
use Rattle.org_wire.specs.Views.{CountedView}
use Rattle.org_wire.specs.declared.reply.Reply.TheVariants as reply
use Rattle.org_wire.specs.declared.stream.End.{End}
use Rattle.org_wire.specs.declared.stream.End.TheVariants.{Stopped}

-- the stream was answered so far, and these bytes are left
pub record IsSoFar (second : Bool) (bytes : List ℕ) (old new : State) (had has now : Option (List ℕ)) : Type 0 where
  pub answers : List Reply
  pub rest : List ℕ
  pub left : now ≡ Some rest
  pub runs : AreReplies second (line_of second) bytes old answers rest new
  pub wrote : Appends had has (written answers)

-- a run over a stream whose lines are read
abbrev pub IsReadRun : {W : Type 0} → Bool → (W → Option (List ℕ)) → Option (List ℕ) → CountedView W → EngineView → End → CountedView W → EngineView → Type 0
IsReadRun second contents stream had old end has new =
    IfSome stream (λ bytes. IsRun second (line_of second) bytes old.state end new.state (contents had.inner) (contents has.inner))

-- all commands that are whole in the bytes taken were answered, as their lines are read
abbrev pub AnswersAllRead : {W : Type 0} → Bool → (W → Option (List ℕ)) → Option (List ℕ) → CountedView W → EngineView → Option (List ℕ) → CountedView W → EngineView → Type 0
AnswersAllRead second contents stream had old held has new =
    IfSome stream (λ bytes. AnswersTaken second (line_of second) bytes old.state new.state (contents had.inner) (contents has.inner) held)

-- the answer to a command, or out of memory with nothing changed
pub record IsServed (second : Bool) (command : Command) (old : State) (answer : Reply) (new : State) : Type 0 where
  pub done : (answer ≡ out_of_memory → ⊥) → AnswersSo second (Given command) old answer new
  pub memory : answer ≡ out_of_memory → (new ≡ old) × MayTakeMemory command

-- the same of an engine
abbrev pub Serves : Bool → Command → EngineView → Reply → EngineView → Type 0
Serves second command old answer new = IsServed second command old.state answer new.state

-- the engine's answer to a step that needs no memory
abbrev pub ServesSurely : step.Command → EngineView → Reply → EngineView → Type 0
ServesSurely said old answer new =
    (answer ≡ shown (step.step said old.state).reply) × (new.state ≡ (step.step said old.state).after)

-- the reply to a change or a pin
abbrev pub serial_reply : Result ℕ Fault → Reply
serial_reply (Ok serial) = reply.Serial serial
serial_reply (Err fault) = reply.Refused fault

-- the reply to a completion, with what it replaced
abbrev pub told_change : Result Completion Fault → Reply
told_change (Ok done) = reply.Changed done.serial (record { at = done.change.at; del = done.change.del; ins = string_bytes done.change.ins })
told_change (Err fault) = reply.Refused fault

-- the reply to a question for lines
abbrev pub told_lines : Result (List ℕ) Fault → Reply
told_lines (Ok lines) = reply.Shown lines
told_lines (Err fault) = reply.Refused fault

-- the reply to a question for a text
abbrev pub told_text : {Y : Type 0} → Result (String Y) Fault → Reply
told_text (Ok text) = reply.Shown (string_bytes text)
told_text (Err fault) = reply.Refused fault

-- the answer to a view, or out of memory with nothing changed
pub record IsViewServed (view : View) (request : Request) (old : State) (answer : Reply) (new : State) : Type 0 where
  pub done : (answer ≡ out_of_memory → ⊥) → (question : step.Query) × AsksOf (Asks view) (step.world_for request.session old) question
      × (answer ≡ shown (step.step (step.Ask question request.form request.session) old).reply) × (new ≡ (step.step (step.Ask question request.form request.session) old).after)
  pub memory : answer ≡ out_of_memory → new ≡ old

-- the same of an engine
abbrev pub ServesView : View → Request → EngineView → Reply → EngineView → Type 0
ServesView view request old answer new = IsViewServed view request old.state answer new.state

-- what a command may count. A view reads the sections of the asked world that are still to be read, and an agenda
-- examines stamps besides. A file that is added classifies its sections, and a change of one the new ones. Completing a
-- heading reads one section besides. All others count nothing
abbrev pub CountsFor : Command → EngineView → EngineView → Type 0
CountsFor (Todo request file words) old new = Looks (pending_asked request.session old) NoStamps old new
CountsFor (Match request file text) old new = Looks (pending_asked request.session old) NoStamps old new
CountsFor (Agenda request date days) old new = Looks (pending_asked request.session old) AnyStamps old new
CountsFor (Clock request text) old new = Looks (pending_asked request.session old) NoStamps old new
CountsFor (Complete seen line keyword) old new = Completes seen.name line keyword old new
CountsFor (Add name text) old new = Classifies (added_count text) old new
CountsFor (Edit seen at del ins) old new = Classifies (new_count at del ins (file_named seen.name old.state.world.files)) old new
CountsFor _ old new = new.counts ≡ old.counts

-- what was read is answered so
abbrev pub Answered : Bool → Next → State → Reply → State → Type 0
Answered second (Given command) old answer new = IsServed second command old answer new
Answered second (Refused fault) old answer new = (answer ≡ reply.Refused fault) × (new ≡ old)
Answered second (Last fault) old answer new = ⊥
Answered second Ended old answer new = ⊥

-- a writer got the line of a fault whole, no call failed, and the run ends with the fault's code
abbrev pub EndsAt : {W : Type 0} → (W → Option (List ℕ)) → Fault → CountedView W → End → CountedView W → Type 0
EndsAt contents fault old end new =
    (end ≡ Stopped (code_of fault)) × AppendsTo contents old new (fault_bytes fault) × (new.failed ≡ old.failed)
