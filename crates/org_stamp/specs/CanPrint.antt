-- The stamps that the grammar gives, by their fields (the bounds are the profile's).
use Rattle.std.specs.Prelude.{◌≡◌, ◌<◌, None, IfSome, IfNone}
use Rattle.org_cal.specs.Days.{IsDay}
use Rattle.org_cal.specs.declared.time_of_day.TheConstants.{MINUTES_PER_DAY}
use Rattle.org_stamp.specs.declared.mark.Repeater.{Repeater}
use Rattle.org_stamp.specs.declared.stamp.Stamp.{Stamp}

-- numbers of one to four digits, and a repeater of some units
pub record IsRepeater (r : Repeater) : Type 0 where
  pub some : 0 < r.n
  pub few : r.n < 10000
  pub limit_few : IfSome r.limit (λ a. a.0 < 10000)

-- days and times that there are, no end without a start, and numbers of one to four digits
pub record CanPrint (s : Stamp) : Type 0 where
  pub day : IsDay s.day
  pub time : IfSome s.time (λ c. c < MINUTES_PER_DAY)
  pub end_time : IfSome s.end_time (λ c. c < MINUTES_PER_DAY)
  pub end_of_start : IfNone s.time (s.end_time ≡ None)
  pub repeater : IfSome s.repeater IsRepeater
  pub delay : IfSome s.delay (λ d. d.n < 10000)
  pub last : IfSome s.last (λ l. IsDay l.0)
  pub last_time : IfSome s.last (λ l. IfSome l.1 (λ c. c < MINUTES_PER_DAY))
