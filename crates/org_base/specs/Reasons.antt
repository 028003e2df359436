-- Why a command is refused, in order (profile): the first reason that holds is answered.
use Rattle.std.specs.Prelude.{Bool, if◌then◌else◌, List, [], ◌∷◌, Option, None, Some}
use Rattle.org_base.specs.declared.fault.Fault.{Fault}

-- a reason may hold, and has its fault
abbrev pub Reason : Type 0
Reason = Bool × Fault

-- the fault of the first reason that holds
abbrev pub first_of : List Reason → Option Fault
first_of [] = None
first_of (reason ∷ reasons) = if reason.0 then Some reason.1 else first_of reasons
