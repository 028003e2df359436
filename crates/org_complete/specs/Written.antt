-- What a completion puts into a heading's text (profile).
use Rattle.std.specs.Prelude.{◌≡◌, ◌≢◌, ℕ, ◌+◌, ◌≤◌, Bool, true, false, ⊤, List, [], ◌++◌, string_bytes, Option, Some, None, Result, Ok, Err}
use Rattle.std.specs.List.{slice_range}
use Rattle.std.specs.Str.{IsUtf8}
use Rattle.org_base.specs.Codes.{memory_fault}
use Rattle.org_base.specs.declared.code.Code.TheVariants as code
use Rattle.org_base.specs.declared.fault.Fault.{Fault}
use Rattle.org_base.specs.declared.fault.Fault.TheVariants as fault
use Rattle.org_base.specs.declared.span.Span.{Span}
use Rattle.org_cal.specs.declared.moment.Moment.{Moment}
use Rattle.org_complete.specs.Completion.{completed, completed_at, completion_part, part_at, plan_part, plan_written}
use Rattle.org_complete.specs.Parts.{Part}
use Rattle.org_complete.specs.declared.plan.Plan.{Plan}
use Rattle.org_complete.specs.declared.plan.Shift.{Shift}
use Rattle.org_entry.specs.declared.entry.Entry.{Entry}
use Rattle.org_stamp.specs.Print.{stamp_text}
use Rattle.org_store.specs.Change.{replaced_text}
use Rattle.org_store.specs.declared.change.OwnedChange.{OwnedChange}
use Rattle.org_utf8.specs.Laws.{IsTextPart}

-- want of a time
abbrev pub is_hours : Result (Option Shift) Fault → Bool
is_hours (Err (fault.Plain code.Hours)) = true
is_hours _ = false

-- where a shift after a place ends; the place where there is none
abbrev pub shift_end : ℕ → Option Shift → ℕ
shift_end from None = from
shift_end from (Some s) = s.span.at + s.span.len

-- what stands in a text from a place up to there when the stamp is shifted
abbrev pub shift_text : List ℕ → ℕ → Option Shift → List ℕ
shift_text text from None = []
shift_text text from (Some s) = slice_range text from s.span.at ++ stamp_text s.stamp

-- the same of a plan, after a keyword's part of the text
abbrev pub plan_end : Span → Plan → ℕ
plan_end span plan = shift_end (shift_end (span.at + span.len) plan.shifts.0) plan.shifts.1

-- what stands after the keyword when the plan's stamps are shifted, up to the last of them
abbrev pub plan_text : List ℕ → Span → Plan → List ℕ
plan_text text span plan =
    let end = span.at + span.len in
    shift_text text end plan.shifts.0 ++ shift_text text (shift_end end plan.shifts.0) plan.shifts.1

-- the shift's part stands after the place
abbrev pub IsBehind : List ℕ → ℕ → Option Shift → Type 0
IsBehind text from None = ⊤
IsBehind text from (Some s) = (from ≤ s.span.at) × IsTextPart text s.span

-- the parts of a plan stand in the text one after the other, between characters
pub record CanWrite (text : List ℕ) (span : Span) (plan : Plan) : Type 0 where
  pub utf8 : IsUtf8 text
  pub keyword : IsTextPart text span
  pub first : IsBehind text (span.at + span.len) plan.shifts.0
  pub second : IsBehind text (shift_end (span.at + span.len) plan.shifts.0) plan.shifts.1

-- the answer, seen so, is the one wanted, or memory was refused
abbrev pub AnswersAs : {T : Type 0} → (T → List ℕ) → Result T Fault → Result (List ℕ) Fault → Type 0
AnswersAs seen (Ok new) wanted = wanted ≡ Ok (seen new)
AnswersAs seen (Err refused) wanted = refused ≢ memory_fault → wanted ≡ Err refused

-- a change, as bytes
abbrev pub part_of : OwnedChange → Part
part_of c = record { at = c.at; del = c.del; ins = string_bytes c.ins }

-- a change of a text cuts no character, is this part, and the text with it, unless it gets too long, is the wanted one
pub record IsPart (text : List ℕ) (part : Result Part Fault) (wanted : Result (List ℕ) Fault) (change : OwnedChange) : Type 0 where
  pub within : IsTextPart text (record { at = change.at; len = change.del })
  pub is : part ≡ Ok (part_of change)
  pub makes : wanted ≡ replaced_text text change.at change.del (string_bytes change.ins)

-- a change is what completing the heading on a line replaces
abbrev pub IsCompletionOf : List ℕ → ℕ → List ℕ → Moment → OwnedChange → Type 0
IsCompletionOf text line keyword now = IsPart text (completion_part text line keyword now) (completed text line keyword now)

-- the same of the heading of the section at a place
abbrev pub IsCompletionAt : List ℕ → ℕ → List ℕ → Moment → OwnedChange → Type 0
IsCompletionAt text place keyword now = IsPart text (part_at text place keyword now) (completed_at text place keyword now)

-- a change is what writing a plan into the entry of the section at a place replaces
abbrev pub IsPlanWritten : List ℕ → ℕ → Entry → Option Span → Plan → OwnedChange → Type 0
IsPlanWritten text place entry old plan = IsPart text (Ok (plan_part text place entry old plan)) (plan_written text place entry old plan)
