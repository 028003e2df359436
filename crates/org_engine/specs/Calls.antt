-- What calls of an engine and of its parts say, by the step.
use Rattle.org_base.specs.declared.limits.TheConstants.{MOST_FILES}
use Rattle.std.specs.Prelude.{◌≡◌, ◌≢◌, ◌<◌, ℕ, true, false, not, nat_le, if◌then◌else◌, List, Option, None, Some, Result, Ok, Err, IfErr, IfOk, IfSome, String, is_some, length, slice_get, string_bytes}
use Rattle.std.specs.Borrow.{Bor}
use Rattle.std.specs.Option.{option_map}
use Rattle.org_base.specs.Codes.{memory_fault}
use Rattle.org_base.specs.FileName.{is_file_name}
use Rattle.org_base.specs.declared.code.Code.TheVariants as code
use Rattle.org_base.specs.declared.fault.Fault.{Fault}
use Rattle.org_base.specs.declared.fault.Fault.TheVariants as fault
use Rattle.org_engine.specs.Computed.{FailsSurely}
use Rattle.org_engine.specs.Step.{AddFile, Answers, Command, Complete, KeywordsOf, Refused, Reply, Serial, Shown, changes, file_named, put, text_named, text_seen}
use Rattle.org_engine.specs.declared.changes.Completion.{Completion}
use Rattle.org_engine.specs.World.{EngineView, FileView, KeptWorld, State}
use Rattle.org_complete.specs.Completion.{completed, completion_part}
use Rattle.org_complete.specs.Written.{IsCompletionOf, part_of}
use Rattle.org_store.specs.Change.{edited, edited_text}
use Rattle.org_store.specs.File.{FileView as KeptFile}
use Rattle.org_store.specs.declared.change.Change.{Change}
use Rattle.org_store.specs.declared.change.OwnedChange.{OwnedChange}

-- what a text says that is lent, if one is
abbrev pub text_in : {T : Type 0} → (T → List ℕ) → Option (Bor T) → Option (List ℕ)
text_in content lent = option_map (λ text. content text.now) lent

-- the name and the text of the file at a place
abbrev pub IsFileAt : List FileView → ℕ → List ℕ → List ℕ → Type 0
IsFileAt files place name text = (file : FileView) → slice_get files place ≡ Some file → (name ≡ file.name) × (text ≡ file.text)

-- the name of the file at a place, and what is kept of it
abbrev pub IsKeptAt : List FileView → ℕ → List ℕ → KeptFile → Type 0
IsKeptAt files place name kept = (file : FileView) → slice_get files place ≡ Some file → file ≡ record { name = name; text = kept.text; serial = kept.serial }

-- the text, lent, and the serial of the file of that name
abbrev pub IsVersion : {T : Type 0} → (T → List ℕ) → List ℕ → List FileView → Bor T × ℕ → Type 0
IsVersion content name files found =
    (file : FileView) × (file_named name files ≡ Some file) × (content found.0.now ≡ file.text) × (found.1 ≡ file.serial)

-- a file of this name may be added: the name is one, no file has it, and there is room
pub record IsNewFile (name : List ℕ) (files : List FileView) : Type 0 where
  pub named : is_file_name name ≡ true
  pub gone : is_some (file_named name files) ≡ false
  pub room : length files < MOST_FILES

-- the text of a file with a change, or why the change is refused
abbrev pub edited_file : Change → Option FileView → Result (List ℕ) Fault
edited_file change None = Err (fault.Plain code.Unknown)
edited_file change (Some file) = edited_text file.text change

-- the same of the file of that name
abbrev pub edited_named : List ℕ → Change → List FileView → Result (List ℕ) Fault
edited_named name change files = edited_file change (file_named name files)

-- a change of the file of that name isn't refused
abbrev pub Accepts : List ℕ → Change → KeptWorld → Type 0
Accepts name change kept = (file : FileView) → file_named name kept.world.files ≡ Some file → edited_text file.text change ≡ Ok (edited file.text change)

-- it is, with this fault
abbrev pub RefusesEdit : List ℕ → Change → KeptWorld → Fault → Type 0
RefusesEdit name change kept fault = (file : FileView) → file_named name kept.world.files ≡ Some file → edited_text file.text change ≡ Err fault

-- a serial that is given is the step's, and so is the state
abbrev pub Tells : Command → EngineView → Result ℕ Fault → EngineView → Type 0
Tells command old result new = IfOk result (λ serial. Answers command old.state (Serial serial) new.state)

-- the same of a text that is given
abbrev pub Shows : {Y : Type 0} → Command → EngineView → Result (String Y) Fault → EngineView → Type 0
Shows command old result new = IfOk result (λ text. Answers command old.state (Shown (string_bytes text)) new.state)

-- after a refusal the state is as before, and the fault is the step's
abbrev pub RefusesSurely : {T : Type 0} → Command → EngineView → Result T Fault → EngineView → Type 0
RefusesSurely command old result new =
    IfErr result (λ fault. (new.state ≡ old.state) × Answers command old.state (Refused fault) old.state)

-- the same where memory may be refused, of which the step says nothing
abbrev pub Refuses : {T : Type 0} → Command → EngineView → Result T Fault → EngineView → Type 0
Refuses command old result new =
    IfErr result (λ fault. (new.state ≡ old.state) × (fault ≢ memory_fault → Answers command old.state (Refused fault) old.state))

-- a file of this name is refused with this fault, whatever its text
abbrev pub RefusesName : List ℕ → State → Fault → Type 0
RefusesName name s fault = (text : List ℕ) → Answers (AddFile name text) s (Refused fault) s

-- a change of the file of that name is answered so: with the next serial, unless it is refused or there is none
abbrev pub Puts : List ℕ → Change → EngineView → Reply → EngineView → Type 0
Puts name change old reply new =
    changes old.state (put name old.state (edited_named name change old.state.world.files)) ≡ record { reply = reply; after = new.state }

-- a change is what completing a heading replaces in the text of the file of that name
pub record IsCompletionIn (name : List ℕ) (line : ℕ) (keyword : List ℕ) (kept : KeptWorld) (change : OwnedChange) : Type 0 where
  pub file : FileView
  pub found : file_named name kept.world.files ≡ Some file
  pub is : IsCompletionOf file.text line keyword kept.world.moment change

-- completing a heading of the file of that name is refused with this fault
abbrev pub FailsToComplete : List ℕ → ℕ → List ℕ → KeptWorld → Fault → Type 0
FailsToComplete name line keyword kept fault =
    (file : FileView) → file_named name kept.world.files ≡ Some file → completed file.text line keyword kept.world.moment ≡ Err fault

-- what a completion answers that it replaced is what completing the heading replaces in the text of the file of that name
pub record Replaces (name : List ℕ) (line : ℕ) (keyword : List ℕ) (s : State) (done : Completion) : Type 0 where
  pub file : FileView
  pub found : file_named name s.world.files ≡ Some file
  pub part : completion_part file.text line keyword s.world.moment ≡ Ok (part_of done.change)

-- a completion answers the step's serial, and the state after it is the step's
abbrev pub IsCompleted : ℕ → List ℕ → ℕ → ℕ → List ℕ → EngineView → EngineView → Completion → Type 0
IsCompleted session name serial line keyword old new done = Answers (Complete session name serial line keyword) old.state (Serial done.serial) new.state

-- the file isn't changed, and that is the step's fault
abbrev pub PutsNone : List ℕ → Change → EngineView → EngineView → Fault → Type 0
PutsNone name change old new fault = Puts name change old (Refused fault) new

-- the session, the name or the serial is refused whatever memory does
abbrev pub FailsUnseen : {T : Type 0} → ℕ → List ℕ → ℕ → EngineView → Result T Fault → Type 0
FailsUnseen session name serial old result = FailsSurely result (text_seen session name serial old.state.world.files)

-- so is a name that no file has
abbrev pub FailsUnknown : {T : Type 0} → List ℕ → EngineView → Result T Fault → Type 0
FailsUnknown name e result = text_named name e.state.world.files ≡ None → result ≡ Err (fault.Plain code.Unknown)

-- lines are those of the keywords of the file of that name
abbrev pub ShowsKeywords : List ℕ → EngineView → List ℕ → Type 0
ShowsKeywords name e lines = Answers (KeywordsOf name) e.state (Shown lines) e.state

-- why no file of this name can be added, whatever its text
abbrev pub name_fault : List ℕ → List FileView → Option Fault
name_fault name files =
    if not (is_file_name name) then Some (fault.Plain code.Command)
    else (if is_some (file_named name files) then Some (fault.Plain code.Taken)
    else (if nat_le MOST_FILES (length files) then Some (fault.Plain code.Files)
    else None))

-- that is answered surely: out of memory never stands in its place
abbrev pub RefusesSurelyBy : {T : Type 0} → Option Fault → Result T Fault → Type 0
RefusesSurelyBy owed result = IfSome owed (λ fault. result ≡ Err fault)
