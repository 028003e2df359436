-- What a call of the calendar is refused for (profile).
use Rattle.org_base.specs.declared.code.Code.TheVariants as code
use Rattle.org_base.specs.declared.fault.Fault.{Fault}
use Rattle.org_base.specs.declared.fault.Fault.TheVariants.{Plain}

-- the refusal of a date or a time that there isn't, and of a shift that leaves the years 1 to 9999
abbrev pub date_fault : Fault
date_fault = Plain code.Date

-- the refusal of options of a clock table, and of a block of time that there isn't
abbrev pub option_fault : Fault
option_fault = Plain code.Option
