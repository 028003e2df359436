-- How often events are again (RFC 5545, 3.8.5.3, "Recurrence Rule", and 3.8.5.2, "Recurrence Date-Times").
use Rattle.std.specs.Prelude.{ℕ, List, [], ◌∷◌, ◌++◌, Option, None, Some, codes, decimal, map}
use Rattle.org_ical.specs.Dates.{on_date}
use Rattle.org_ical.specs.Properties.{property, when_line}
use Rattle.org_ical.specs.declared.component.Kind.{Kind}
use Rattle.org_ical.specs.declared.component.Kind.TheVariants.{Event, Task}
use Rattle.org_ical.specs.declared.date.Date.{Date}
use Rattle.org_ical.specs.declared.date.When.{When}
use Rattle.org_ical.specs.declared.rule.Frequency.{Frequency}
use Rattle.org_ical.specs.declared.rule.Frequency.TheVariants.{Daily, Weekly, Monthly, Yearly}
use Rattle.org_ical.specs.declared.rule.Rule.{Rule}

abbrev pub frequency_text : Frequency → List ℕ
frequency_text Daily = codes "DAILY"
frequency_text Weekly = codes "WEEKLY"
frequency_text Monthly = codes "MONTHLY"
frequency_text Yearly = codes "YEARLY"

-- a rule without an end
abbrev pub rule_line : Rule → List ℕ
rule_line rule = property (codes "RRULE") (codes "FREQ=" ++ (frequency_text rule.frequency ++ (codes ";INTERVAL=" ++ decimal rule.interval)))

abbrev pub rule_lines : Option Rule → List (List ℕ)
rule_lines None = []
rule_lines (Some rule) = rule_line rule ∷ []

-- further days on which something is: each has its own line
abbrev pub date_line : When → Date → List ℕ
date_line when date = when_line (codes "RDATE") (on_date date when)

abbrev pub dates_lines : When → List Date → List (List ℕ)
dates_lines when dates = map (date_line when) dates

-- the same of an event; a task has none
abbrev pub event_dates : Kind → List Date → List (List ℕ)
event_dates (Event when rule status) dates = dates_lines when dates
event_dates (Task due priority) dates = []
