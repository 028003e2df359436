-- Exit statuses after an answer (profile).
use Rattle.std.specs.Prelude.{ℕ, Bool, true, false, if◌then◌else◌}
use Rattle.org_act.specs.declared.act.Refusal.{Refusal}
use Rattle.org_act.specs.declared.act.Refusal.TheVariants as refusal
use Rattle.org_act.specs.declared.amendment.Unamended.{Unamended}
use Rattle.org_act.specs.declared.amendment.Unamended.TheVariants.{Refused, Unsaved}
use Rattle.org_base.specs.declared.code.Code.TheVariants as code
use Rattle.org_base.specs.declared.fault.Fault.TheVariants as fault
use Rattle.org_save.specs.declared.unsaved.Cause.TheVariants.{Memory}
use Rattle.org_save.specs.declared.unsaved.Why.{Why}
use Rattle.org_save.specs.declared.unsaved.Why.TheVariants.{Failed}

-- a file was left out; else there is a row, or none
abbrev pub status_of : Bool → Bool → ℕ
status_of has_row true = 3
status_of true false = 0
status_of false false = 1

-- after a check: a file was left out; else nothing was found that counts, or something was
abbrev pub check_status : Bool → Bool → ℕ
check_status counts true = 3
check_status false false = 0
check_status true false = 1

-- memory was refused to a step of a replacement
abbrev pub is_memory : Why → Bool
is_memory (Failed step Memory) = true
is_memory why = false

-- an act is refused for want of memory
abbrev pub wants_memory : Refusal → Bool
wants_memory (refusal.Fault (fault.Plain code.Memory)) = true
wants_memory why = false

-- after a text that could not be replaced: memory was refused, or something else
abbrev pub unsaved_status : Why → ℕ
unsaved_status why = if is_memory why then 4 else 5

-- after an act that wasn't done: memory was refused, or the act is, or the text could not be replaced
abbrev pub unamended_status : Unamended → ℕ
unamended_status (Refused why) = if wants_memory why then 4 else 2
unamended_status (Unsaved why) = unsaved_status why.why
