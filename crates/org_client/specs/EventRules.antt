-- Which repeaters are rules of calendars (RFC 5545, 3.3.10, "Recurrence Rule"; Org manual 9.6, "Repeated tasks"): a rule passes
-- over a month that lacks the day, where Org takes the month's last day.
use Rattle.std.specs.Prelude.{ℕ, ◌==◌, ◌&&◌, Bool, nat_le, if◌then◌else◌, Option, None, Some, List, [], ◌∷◌, map}
use Rattle.org_base.specs.declared.profile.Profile.{Profile}
use Rattle.org_base.specs.declared.profile.Profile.TheVariants.{One, Two}
use Rattle.org_cal.specs.Parts.{month_day_of, month_of}
use Rattle.org_cal.specs.declared.unit.Unit.{Unit as TimeUnit}
use Rattle.org_cal.specs.declared.unit.Unit.TheVariants.{Day, Hour, Month, Week, Year}
use Rattle.org_agenda.specs.declared.source.HeadingStamp.{HeadingStamp}
use Rattle.org_entry.specs.declared.active.Role.{Role}
use Rattle.org_entry.specs.declared.active.Role.TheVariants.{Deadline, Plain, Scheduled}
use Rattle.org_ical.specs.declared.date.Date.{Date}
use Rattle.org_ical.specs.declared.rule.Frequency.{Frequency}
use Rattle.org_ical.specs.declared.rule.Frequency.TheVariants.{Daily, Monthly, Weekly, Yearly}
use Rattle.org_ical.specs.declared.rule.Rule.{Rule}
use Rattle.org_stamp.specs.declared.mark.Delay.{Delay}
use Rattle.org_stamp.specs.declared.mark.Repeater.{Repeater}
use Rattle.org_stamp.specs.declared.stamp.Stamp.{Stamp}
use Rattle.org_client.specs.EventTimes.{date_of}

-- each month has the day, and each year: no month lacks one of the first 28, and no year but 29 February
abbrev pub is_in_each_month : ℕ → Bool
is_in_each_month day = nat_le (month_day_of day) 28

abbrev pub is_leap_day : ℕ → Bool
is_leap_day day = (month_of day == 2) && (month_day_of day == 29)

-- how long the steps of a unit are, from a day on: hours have no rule, since a day shows one occurrence
abbrev pub frequency_of : TimeUnit → ℕ → Option Frequency
frequency_of Hour day = None
frequency_of Day day = Some Daily
frequency_of Week day = Some Weekly
frequency_of Month day = if is_in_each_month day then Some Monthly else None
frequency_of Year day = if is_leap_day day then None else Some Yearly

-- a repeater of none has no rule
abbrev pub rule_with : ℕ → Option Frequency → Option Rule
rule_with n None = None
rule_with n (Some frequency) = if n == 0 then None else Some (record { interval = n; frequency = frequency })

abbrev pub repeater_rule : Option Repeater → ℕ → Option Rule
repeater_rule None day = None
repeater_rule (Some r) day = rule_with r.n (frequency_of r.unit day)

-- in the first profile a range doesn't repeat
abbrev pub plain_rule : Profile → Stamp → Option (ℕ × Option ℕ) → Option Rule
plain_rule p s None = repeater_rule s.repeater s.day
plain_rule One s (Some last) = None
plain_rule Two s (Some last) = repeater_rule s.repeater s.day

-- what is delayed is written out
abbrev pub delayed_rule : Stamp → Option Delay → Option Rule
delayed_rule s None = repeater_rule s.repeater s.day
delayed_rule s (Some delay) = None

abbrev pub rule_by : Profile → Role → Stamp → Option Rule
rule_by p Plain s = plain_rule p s s.last
rule_by p Scheduled s = delayed_rule s s.delay
rule_by p Deadline s = plain_rule p s s.last

-- the rule of a stamp, if one gives the days on which it begins
abbrev pub rule_of : Profile → HeadingStamp → Option Rule
rule_of p s = rule_by p s.role s.stamp

-- where it begins: by a rule on its own day, else on the first of those that are asked
abbrev pub start_of : Option Rule → Stamp → ℕ → ℕ
start_of None s day = day
start_of (Some rule) s day = s.day

-- on which further days it is that no rule gives
abbrev pub more_dates : Option Rule → List ℕ → List Date
more_dates None days = map date_of days
more_dates (Some rule) days = []
