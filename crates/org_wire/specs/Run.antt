-- A run: the replies to the commands of a stream, and the state after them (profile).
use Rattle.std.specs.Result.{result_ok}
use Rattle.std.specs.Prelude.{◌≡◌, Bool, if◌then◌else◌, List, [], ◌∷◌, ◌++◌, ℕ, Option, None, Some, IfSome, flat_map}
use Rattle.std.specs.Option.{option_to_list, option_map_or, option_and_then}
use Rattle.std.specs.Io.KnownBytes.{Appends, Consumes}
use Rattle.org_base.specs.Codes.{code_of, memory_fault}
use Rattle.org_base.specs.declared.code.Code.TheVariants.{Device, Memory}
use Rattle.org_cal.specs.Faults.{date_fault}
use Rattle.org_cal.specs.declared.moment.Moment.{Moment}
use Rattle.org_engine.specs.World.{EngineView, State}
use Rattle.org_complete.specs.Completion.{completion_part}
use Rattle.org_complete.specs.Parts.{Part}
use Rattle.org_engine.specs.Questions.{AsksMatch, AsksOf, AsksTable, asked_agenda}
use Rattle.org_engine.specs.Step as step
use Rattle.org_engine.specs.declared.question.Form.TheVariants as form
use Rattle.org_wire.specs.Replies.{reply_bytes, fault_bytes}
use Rattle.org_wire.specs.Spelled.{IsSpelled}
use Rattle.org_wire.specs.Stream.{IsReplaceable, IsUnfinished, Line, read_by}
use Rattle.org_wire.specs.declared.command.Command.{Command}
use Rattle.org_wire.specs.declared.command.Request.{Request}
use Rattle.org_wire.specs.declared.command.Command.TheVariants.{Add, Agenda, At, Clock, Complete, Drop, Edit, Inherit, Keywords, Match, Pin, Profile, Text, Todo, Unpin, Version}
use Rattle.org_wire.specs.Views.{CountedView}
use Rattle.org_wire.specs.declared.command.Next.{Next}
use Rattle.org_wire.specs.declared.command.Next.TheVariants.{Given, Refused, Last, Ended}
use Rattle.org_wire.specs.declared.reply.Reply.{Reply}
use Rattle.org_wire.specs.declared.reply.Reply.TheVariants as reply
use Rattle.org_wire.specs.declared.stream.End.{End}
use Rattle.org_wire.specs.declared.stream.End.TheVariants.{Done, Stopped}

-- the command of another moment; where the words spell none, a question that is refused as no date
abbrev pub moment_command : Option Moment → step.Command
moment_command found = option_map_or step.At found (step.Ask (step.Unread date_fault) form.Text None)

-- the question for which a view stands, asked of the current world or of the one that a session keeps, on that one's day
abbrev pub MeansView : (ℕ → step.Query → Type 0) → Request → State → step.Command → Type 0
MeansView asks request s said =
    (question : step.Query) × AsksOf asks (step.world_for request.session s) question × (said ≡ step.Ask question request.form request.session)

-- what a command of the stream says to the engine, in a state
abbrev pub Means : Command → State → step.Command → Type 0
Means (Add name text) s said = said ≡ step.AddFile name text
Means (Drop name) s said = said ≡ step.DropFile name
Means (Edit seen at del ins) s said = said ≡ step.EditFile seen.session seen.name seen.serial at del ins
Means (Complete seen line keyword) s said = said ≡ step.Complete seen.session seen.name seen.serial line keyword
Means (Inherit names) s said = said ≡ step.Inherit names
Means (At moment) s said = said ≡ moment_command moment
Means (Profile profile) s said = said ≡ step.SetProfile profile
Means (Pin session) s said = said ≡ step.PinWorld session
Means (Unpin session) s said = said ≡ step.Unpin session
Means (Text name) s said = said ≡ step.TextOf name
Means (Keywords name) s said = said ≡ step.KeywordsOf name
Means Version s said = said ≡ step.Version
Means (Todo request file words) s said = MeansView (λ today question. question ≡ step.TodoList file words) request s said
Means (Match request file text) s said = MeansView (λ today question. AsksMatch file text question) request s said
Means (Agenda request date days) s said = MeansView (λ today question. question ≡ asked_agenda date days) request s said
Means (Clock request text) s said = MeansView (λ today question. AsksTable text today question) request s said

-- the engine's reply, as it is written
abbrev pub shown : step.Reply → Reply
shown (step.Serial serial) = reply.Serial serial
shown (step.Shown text) = reply.Shown text
shown (step.Refused fault) = reply.Refused fault

-- the reply to a completion, with what it replaced
abbrev pub changed : Option Part → step.Reply → Reply
changed part (step.Serial serial) =
    option_map_or (λ (p : Part). reply.Changed serial (record { at = p.at; del = p.del; ins = p.ins })) part (reply.Serial serial)
changed part answer = shown answer

-- the engine's reply to a command in a state, as it is written: in the second protocol a completion says what it replaced
abbrev pub told_to : Bool → Command → State → step.Reply → Reply
told_to second (Complete seen line keyword) s answer = if second
    then changed (option_and_then (λ file. result_ok (completion_part file.text line keyword s.world.moment)) (step.file_named seen.name s.world.files)) answer
    else shown answer
told_to second command s answer = shown answer

-- the reply that stands where memory is refused
abbrev pub out_of_memory : Reply
out_of_memory = reply.Refused memory_fault

-- what comes next on a stream is answered so in a state, and leaves this state
abbrev pub AnswersSo : Bool → Next → State → Reply → State → Type 0
AnswersSo second (Given command) old answer new =
    (said : step.Command) × Means command old said × (answer ≡ told_to second command old (step.step said old).reply) × (new ≡ (step.step said old).after)
AnswersSo second (Refused fault) old answer new = (answer ≡ reply.Refused fault) × (new ≡ old)
AnswersSo second _ old answer new = ⊥

-- one turn: the reply to what stands first on the stream, or out of memory with the state unchanged
pub record Turn (second : Bool) (says : List ℕ → Line) (bytes : List ℕ) (old : State) (answer : Reply) (new : State) : Type 0 where
  pub done : (answer ≡ out_of_memory → ⊥) → AnswersSo second (read_by says bytes).next old answer new
  pub memory : answer ≡ out_of_memory → (new ≡ old) × IsReplaceable (read_by says bytes).next

-- these are the replies to what stands first on the stream, one after the other; then these bytes and this state are left
abbrev pub AreReplies : Bool → (List ℕ → Line) → List ℕ → State → List Reply → List ℕ → State → Type 0
AreReplies second says bytes old [] rest new = (rest ≡ bytes) × (new ≡ old)
AreReplies second says bytes old (answer ∷ answers) rest new = (mid : State) × Turn second says bytes old answer mid × AreReplies second says (read_by says bytes).rest mid answers rest new

-- what is written of replies
abbrev pub written : List Reply → List ℕ
written answers = flat_map reply_bytes answers

-- what is written besides replies where the stream stops at a fault: the line of the fault
abbrev pub last_bytes : Next → List ℕ
last_bytes (Last fault) = fault_bytes fault
last_bytes _ = []

-- how a run ends by what comes last: the end of the stream, or a fault at which it stops
abbrev pub EndsSo : Next → End → Type 0
EndsSo Ended end = end ≡ Done
EndsSo (Last fault) end = end ≡ Stopped (code_of fault)
EndsSo _ end = ⊥

-- the whole stream was answered
pub record IsWhole (second : Bool) (says : List ℕ → Line) (bytes : List ℕ) (old : State) (end : End) (new : State) (had has : Option (List ℕ)) : Type 0 where
  pub answers : List Reply
  pub rest : List ℕ
  pub runs : AreReplies second says bytes old answers rest new
  pub ends : EndsSo (read_by says rest).next end
  pub wrote : Appends had has (written answers ++ last_bytes (read_by says rest).next)

-- a front of the stream was answered; all replies but the last were written whole, and of the last a front. What a failed
-- write was to write is a reply, or else what stands for the fault at which the stream stops
pub record IsFront (second : Bool) (says : List ℕ → Line) (bytes : List ℕ) (old new : State) (had has : Option (List ℕ)) : Type 0 where
  pub answers : List Reply
  pub cut : Option Reply
  pub rest : List ℕ
  pub runs : AreReplies second says bytes old (answers ++ option_to_list cut) rest new
  pub part : List ℕ
  pub lost : List ℕ
  pub is : option_map_or reply_bytes cut (last_bytes (read_by says rest).next) ≡ part ++ lost
  pub wrote : Appends had has (written answers ++ part)

-- the end after a failed call
abbrev pub broken : End
broken = Stopped Device

-- the end where there was no memory to begin with
abbrev pub unbegun : End
unbegun = Stopped Memory

-- a run that hasn't begun leaves its reader, its writer and its engine as they were
abbrev pub AreUntouched : {R W : Type 0} → R → R → W → W → EngineView → EngineView → Type 0
AreUntouched reader left writer written old new = (left ≡ reader) × (written ≡ writer) × (new ≡ old)

-- a run over a stream: the whole of it, or up to the first failed call
pub record IsRun (second : Bool) (says : List ℕ → Line) (bytes : List ℕ) (old : State) (end : End) (new : State) (had has : Option (List ℕ)) : Type 0 where
  pub whole : (end ≡ broken → ⊥) → IsWhole second says bytes old end new had has
  pub front : end ≡ broken → IsFront second says bytes old new had has

-- all commands that are whole in the bytes taken were answered, and these are the bytes that the reader still holds
pub record AnswersTaken (second : Bool) (says : List ℕ → Line) (bytes : List ℕ) (old new : State) (had has held : Option (List ℕ)) : Type 0 where
  pub answers : List Reply
  pub rest : List ℕ
  pub part : List ℕ
  pub runs : AreReplies second says bytes old answers rest new
  pub wrote : Appends had has (written answers)
  pub taken : Consumes (Some rest) held part
  pub ends : IsUnfinished (read_by says part).next

-- a run over a stream whose bytes are known, where whatever says what lines are says what they spell; of a reader that doesn't
-- tell its bytes nothing is said
abbrev pub IsSpelledRun : {W : Type 0} → Bool → (W → Option (List ℕ)) → Option (List ℕ) → CountedView W → EngineView → End → CountedView W → EngineView → Type 0
IsSpelledRun second contents stream had old end has new = (says : List ℕ → Line) → IsSpelled second says →
    IfSome stream (λ bytes. IsRun second says bytes old.state end new.state (contents had.inner) (contents has.inner))

-- all commands that are whole in the bytes taken were answered, where the bytes of the stream are known, and whatever says what
-- lines are says what they spell
abbrev pub AnswersAllSpelled : {W : Type 0} → Bool → (W → Option (List ℕ)) → Option (List ℕ) → CountedView W → EngineView → Option (List ℕ) → CountedView W → EngineView → Type 0
AnswersAllSpelled second contents stream had old held has new = (says : List ℕ → Line) → IsSpelled second says →
    IfSome stream (λ bytes. AnswersTaken second says bytes old.state new.state (contents had.inner) (contents has.inner) held)
