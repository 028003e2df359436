-- Periods of days.
use Rattle.org_cal.specs.Blocks.{Days}
use Rattle.org_cal.specs.declared.period.Period.{Period}

-- the first and the last day of a period
abbrev pub days_of : Period → Days
days_of period = (period.first, period.last)
