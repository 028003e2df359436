-- The rows of a day in the rule's own words: which kinds there are on a day, the days of a delay, who is open, what a
-- range's rows show, and which stamps are near (Org manual 9.6, "Timestamps"; "Deadlines and Scheduling"; "Repeated tasks"; profile).
use Rattle.std.specs.Prelude.{◌≡◌, ◌≢◌, ◌⊎◌, ◌↔◌, ◌<◌, ◌≤◌, ℕ, ◌+◌, ◌*◌, Bool, true, false, List, Option, None, Some, IsTrue}
use Rattle.org_base.specs.declared.profile.Profile.{Profile}
use Rattle.org_base.specs.declared.profile.Profile.TheVariants.{One, Two}
use Rattle.org_cal.specs.Days.{IsDay}
use Rattle.org_cal.specs.declared.unit.Unit.{Unit as TimeUnit}
use Rattle.org_cal.specs.declared.unit.Unit.TheVariants.{Hour, Day, Week, Month, Year}
use Rattle.org_entry.specs.declared.active.Role.TheVariants.{Deadline, Scheduled}
use Rattle.org_entry.specs.declared.entry.Entry.{Entry}
use Rattle.org_head.specs.declared.head.Head.{Head}
use Rattle.org_inherit.specs.Scope.{Scope}
use Rattle.org_repeat.specs.Occurs.{Occurs, OccursInRange}
use Rattle.org_repeat.specs.Starts.{IsNextAfter, IsRangeStart}
use Rattle.org_settings.specs.Keywords.{keyword_place, keyword_done}
use Rattle.org_stamp.specs.declared.mark.Delay.{Delay}
use Rattle.org_stamp.specs.declared.stamp.Stamp.{Stamp}
use Rattle.org_agenda.specs.Days.{is_shown, numbers, times}
use Rattle.org_index.specs.Delays.{days_in, delay_or}
use Rattle.org_index.specs.Laws.{RangeMeets, Repeats}
use Rattle.org_agenda.specs.Headings.{keyword_in}
use Rattle.org_agenda.specs.Near.{is_near}
use Rattle.org_agenda.specs.Sources.{owner_of}
use Rattle.org_agenda.specs.declared.source.HeadingStamp.{HeadingStamp}
use Rattle.org_agenda.specs.declared.row.RowKind.{RowKind}
use Rattle.org_agenda.specs.declared.row.RowKind.TheVariants.{Listed, OnDay, InRange, OnSchedule, LateSchedule, OnDeadline, Warning, LateDeadline}

-- the days of a delay, rounded down: a day has 24 hours, a month 30.4 days, a year 365.25
abbrev pub IsDays : TimeUnit → ℕ → ℕ → Type 0
IsDays Hour n days = (24 * days ≤ n) × (n < 24 * (days + 1))
IsDays Day n days = days ≡ n
IsDays Week n days = days ≡ 7 * n
IsDays Month n days = (10 * days ≤ 304 * n) × (304 * n < 10 * (days + 1))
IsDays Year n days = (100 * days ≤ 36525 * n) × (36525 * n < 100 * (days + 1))

-- a delay of so many units has the days that `IsDays` says
abbrev pub DelaysAreDays : Type 0
DelaysAreDays = (unit : TimeUnit) (n : ℕ) → IsDays unit n (days_in unit n)

-- the days of the stamp's own delay, whichever dashes it has; others where it has none
abbrev pub IsDelayOr : ℕ → Option Delay → ℕ → Type 0
IsDelayOr other None n = n ≡ other
IsDelayOr other (Some d) n = IsDays d.unit d.n n

-- the day is so many days after an occurrence. Where the first alone is delayed, it is that many after the stamp's own
-- day, or another occurrence itself
abbrev pub IsLater : Profile → Bool → Stamp → ℕ → ℕ → Type 0
IsLater p true s n day = (day ≡ s.day + n) ⊎ ((day ≢ s.day) × Occurs p s day)
IsLater p false s n day = (on : ℕ) × (1 ≤ on) × Occurs p s on × (day ≡ on + n)

-- the stamp occurs on the day, moved by its delay
abbrev pub IsOnSchedule : Profile → Stamp → Option Delay → ℕ → Type 0
IsOnSchedule p s None day = Occurs p s day
IsOnSchedule p s (Some d) day = (n : ℕ) × IsDays d.unit d.n n × IsLater p d.first_only s n day

-- today, of a heading that is open
abbrev pub IsDueToday : HeadingStamp → ℕ → ℕ → Type 0
IsDueToday s today day = (day ≡ today) × (s.owner.is_open ≡ true)

-- the day of which a deadline warns today: in the first profile its own, in the second where it begins next
abbrev pub IsWarnedOf : Profile → Stamp → ℕ → ℕ → Type 0
IsWarnedOf One s today due = due ≡ s.day
IsWarnedOf Two s today due = IsNextAfter s today due

-- today is past the stamp's day and its delay
abbrev pub IsLateBy : HeadingStamp → ℕ → Type 0
IsLateBy s today = (n : ℕ) × IsDelayOr 0 s.stamp.delay n × (s.stamp.day + n < today)

-- the day of which the deadline warns is after today, by at most 14 days, or by at most those of its delay
abbrev pub ComesNear : Profile → HeadingStamp → ℕ → Type 0
ComesNear p s today = (due days : ℕ) × IsWarnedOf p s.stamp today due × IsDelayOr 14 s.stamp.delay days × (today < due) × (due ≤ today + days)

-- the stamp is a range, and has the day
abbrev pub IsRangeOn : Profile → Stamp → ℕ → Type 0
IsRangeOn p s day = (last : ℕ × Option ℕ) × (s.last ≡ Some last) × OccursInRange p s last.0 day

-- when there is a row of a kind on a day
abbrev pub IsByRule : Profile → RowKind → HeadingStamp → ℕ → ℕ → Type 0
IsByRule p Listed s today day = ⊥
IsByRule p OnDay s today day = (s.stamp.last ≡ None) × Occurs p s.stamp day
IsByRule p InRange s today day = IsRangeOn p s.stamp day
IsByRule p OnSchedule s today day = IsOnSchedule p s.stamp s.stamp.delay day
IsByRule p LateSchedule s today day = IsDueToday s today day × IsLateBy s today
IsByRule p OnDeadline s today day = Occurs p s.stamp day
IsByRule p Warning s today day = IsDueToday s today day × ComesNear p s today
IsByRule p LateDeadline s today day = IsDueToday s today day × (s.stamp.day < today)

-- a day shows a row of a kind exactly where the kind's rule says so
abbrev pub KindsAreByRule : Type 0
KindsAreByRule = (p : Profile) (kind : RowKind) (s : HeadingStamp) (today day : ℕ) → IsDay s.stamp.day → IsTrue (is_shown p kind s today day) ↔ IsByRule p kind s today day

-- a deadline of an open heading, without a delay of its own, warns today exactly where it is ahead by at most 14 days
abbrev pub DeadlinesWarnAhead : Type 0
DeadlinesWarnAhead = (p : Profile) (s : HeadingStamp) (today due : ℕ) → s.owner.is_open ≡ true → s.stamp.delay ≡ None → IsDay s.stamp.day → IsWarnedOf p s.stamp today due →
    IsTrue (is_shown p Warning s today today) ↔ ((today < due) × (due ≤ today + 14))

-- the heading has a done keyword of its file
abbrev pub HasDoneKeyword : Scope → Entry → Head → Type 0
HasDoneKeyword scope e head = (word : List ℕ) × (place : ℕ) × (keyword_in e.text head ≡ Some word)
    × (keyword_place scope.settings.keywords word ≡ Some place) × (keyword_done scope.settings.keywords place ≡ true)

-- a heading is open but where its keyword is a done one
abbrev pub OwnersAreOpen : Type 0
OwnersAreOpen = (scope : Scope) (file i : ℕ) (e : Entry) (head : Head) → ((owner_of scope file i e head).is_open ≡ false) ↔ HasDoneKeyword scope e head

-- what the row of a range shows on a day of the copy that begins on another: on the first day of several the first stamp's
-- start, on the last the second's, between none; on a single day both
pub record ShowsItsEnds (p : Profile) (s : Stamp) (last : ℕ × Option ℕ) (begins day : ℕ) : Type 0 where
  pub first : s.day < last.0 → day ≡ begins → times p InRange s day ≡ (s.time, None)
  pub end : s.day < last.0 → day + s.day ≡ begins + last.0 → times p InRange s day ≡ (last.1, None)
  pub between : begins < day → day + s.day < begins + last.0 → times p InRange s day ≡ (None, None)
  pub single : s.day ≡ last.0 → times p InRange s day ≡ (s.time, last.1)

-- a range of several days shows its start on the first day, the second stamp's start on the last, and no time between;
-- one of a single day shows both
abbrev pub RangesShowTheirEnds : Type 0
RangesShowTheirEnds = (p : Profile) (s : Stamp) (last : ℕ × Option ℕ) (begins day : ℕ) → IsDay s.day → s.last ≡ Some last →
    IsRangeStart p s day begins → ShowsItsEnds p s last begins day

-- the first day of a range's copy is day 1, each next one more, and there are as many as the written range has
abbrev pub RangesAreNumbered : Type 0
RangesAreNumbered = (p : Profile) (s : Stamp) (last : ℕ × Option ℕ) (begins day : ℕ) → IsDay s.day → s.last ≡ Some last →
    IsRangeStart p s day begins → ((numbers p InRange s day).0 + begins ≡ day + 1) × ((numbers p InRange s day).1 + s.day ≡ last.0 + 1)

-- the stamp touches the days: it repeats, and its day is no later than the last of them; or a day of its written range is one of
-- them; or its day is; or its day plus its delay
abbrev pub TouchesDays : Profile → ℕ → ℕ → Stamp → Type 0
TouchesDays p from to s =
    (Repeats p s × (s.day ≤ to))
    ⊎ (RangeMeets s.day s.last from to
    ⊎ (((from ≤ s.day) × (s.day ≤ to))
    ⊎ ((from ≤ s.day + delay_or 0 s.delay) × (s.day + delay_or 0 s.delay ≤ to))))

-- the stamp reminds of a heading that isn't done: it is scheduled or a deadline, today is one of the days, and its day less its
-- warning time is no later than today
pub record Reminds (from to today : ℕ) (s : HeadingStamp) : Type 0 where
  pub planned : (s.role ≡ Scheduled) ⊎ (s.role ≡ Deadline)
  pub undone : s.owner.is_open ≡ true
  pub first : from ≤ today
  pub last : today ≤ to
  pub soon : s.stamp.day ≤ today + delay_or 14 s.stamp.delay

-- the stamps that are near are those that touch the days or remind
abbrev pub NearIsMeant : Type 0
NearIsMeant = (p : Profile) (from to today : ℕ) (s : HeadingStamp) → from ≤ to → IsTrue (is_near p from to today s) ↔ (TouchesDays p from to s.stamp ⊎ Reminds from to today s)
