-- In which order commands are refused (profile): the first reason is answered.
use Rattle.std.specs.Prelude.{◌≡◌, ◌↔◌, ℕ, ◌+◌, ◌-◌, ◌==◌, ◌&&◌, nat_le, nat_lt, not, true, List, [], ◌∷◌, ◌++◌, length, Option, None, Some, is_some}
use Rattle.std.specs.Str.{is_utf8}
use Rattle.org_base.specs.FileName.{is_file_name}
use Rattle.org_base.specs.Reasons.{Reason, first_of}
use Rattle.org_base.specs.declared.code.Code.TheVariants as code
use Rattle.org_base.specs.declared.fault.Fault.{Fault}
use Rattle.org_base.specs.declared.fault.Fault.TheVariants.{Plain, Stale}
use Rattle.org_complete.specs.Reasons.{completion_reasons}
use Rattle.org_text.specs.Replace.{is_boundary}
use Rattle.org_engine.specs.Step.{Command, AddFile, DropFile, EditFile, Complete, Refused, file_named, step}
use Rattle.org_engine.specs.World.{FileView, State}

-- the reason that no serial is left
abbrev pub spent : State → Reason
spent s = (nat_le 1_000_000_000_000_000_000 s.serial, Plain code.Spent)

-- why a file isn't added: it has no file's name, another has its name, there are 256, it is no UTF-8, it has more than
-- 67,108,864 bytes, no serial is left
abbrev pub add_reasons : List ℕ → List ℕ → State → List Reason
add_reasons name text s =
    (not (is_file_name name), Plain code.Command) ∷ (is_some (file_named name s.world.files), Plain code.Taken)
    ∷ (nat_le 256 (length s.world.files), Plain code.Files) ∷ (not (is_utf8 text), Plain code.Utf8)
    ∷ (nat_lt 67_108_864 (length text), Plain code.Size) ∷ spent s ∷ []

-- the reason that a number is no session's: they are 1 to 64
abbrev pub no_session : ℕ → Reason
no_session session = (not (nat_le 1 session && nat_le session 64), Plain code.Session)

-- why a session's change of a text isn't made: it is no session, there is no such file, the file has another serial, and
-- then what is wrong with the change
abbrev pub text_reasons : ℕ → ℕ → Option FileView → (List ℕ → List Reason) → List Reason
text_reasons session serial None wrong = no_session session ∷ (true, Plain code.Unknown) ∷ []
text_reasons session serial (Some file) wrong = no_session session ∷ (not (file.serial == serial), Stale file.serial) ∷ wrong file.text

-- what is wrong with an edit of a text: what is put in is no UTF-8, the place lies past the end, it or its end lies inside
-- a character, more than 67,108,864 bytes would be left, no serial is left
abbrev pub edit_reasons : ℕ → ℕ → List ℕ → State → List ℕ → List Reason
edit_reasons at del ins s text =
    (not (is_utf8 ins), Plain code.Utf8) ∷ (nat_lt (length text) (at + del), Plain code.Range)
    ∷ (not (is_boundary text at && is_boundary text (at + del)), Plain code.Boundary)
    ∷ (nat_lt 67_108_864 (length text - del + length ins), Plain code.Size) ∷ spent s ∷ []

-- what is wrong with a completion of a text: its own reasons, or no serial is left
abbrev pub complete_reasons : ℕ → List ℕ → State → List ℕ → List Reason
complete_reasons line keyword s text = completion_reasons text line keyword s.world.moment ++ spent s ∷ []

-- a command is refused exactly where a reason holds, and with the first one's fault
abbrev pub IsRefusedBy : Command → State → List Reason → Type 0
IsRefusedBy c s reasons = (fault : Fault) → ((step c s).reply ≡ Refused fault) ↔ (first_of reasons ≡ Some fault)

-- all that change files are refused in this order
pub record AreRefused (s : State) : Type 0 where
  pub adds : (name text : List ℕ) → IsRefusedBy (AddFile name text) s (add_reasons name text s)
  pub drops : (name : List ℕ) → IsRefusedBy (DropFile name) s ((not (is_some (file_named name s.world.files)), Plain code.Unknown) ∷ spent s ∷ [])
  pub edits : (session : ℕ) (name : List ℕ) (serial at del : ℕ) (ins : List ℕ) →
      IsRefusedBy (EditFile session name serial at del ins) s (text_reasons session serial (file_named name s.world.files) (edit_reasons at del ins s))
  pub completes : (session : ℕ) (name : List ℕ) (serial line : ℕ) (keyword : List ℕ) →
      IsRefusedBy (Complete session name serial line keyword) s (text_reasons session serial (file_named name s.world.files) (complete_reasons line keyword s))

-- in each state a command that changes files is refused exactly where a reason against it holds, and by the first that
-- does
abbrev pub RefusalsComeInOrder : Type 0
RefusalsComeInOrder = (s : State) → AreRefused s
