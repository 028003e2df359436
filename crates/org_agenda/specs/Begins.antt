-- The days on which what stamps stand for begins (Org manual 9.6, "Timestamps"; profile).
use Rattle.std.specs.Prelude.{◌≡◌, ℕ, ◌==◌, Bool, true, false, if◌then◌else◌, List, [], ◌∷◌, Option, None, Some, filter}
use Rattle.std.specs.List.{list_any, range_with_len}
use Rattle.org_base.specs.declared.profile.Profile.{Profile}
use Rattle.org_stamp.specs.declared.stamp.Stamp.{Stamp}
use Rattle.org_repeat.specs.Decided.{occurs}
use Rattle.org_agenda.specs.Days.{occurs_delayed, shown_from, source_rows}
use Rattle.org_agenda.specs.Lists.{Ranked}
use Rattle.org_agenda.specs.declared.row.RowKind.{RowKind}
use Rattle.org_agenda.specs.declared.row.RowKind.TheVariants.{OnDay, OnDeadline, OnSchedule}
use Rattle.org_agenda.specs.declared.source.HeadingStamp.{HeadingStamp}
use Rattle.org_entry.specs.declared.active.Role.{Role}
use Rattle.org_entry.specs.declared.active.Role.TheVariants.{Deadline, Plain, Scheduled}

-- a stamp begins where it occurs, a range where the copy begins that the day shows
abbrev pub begins_plain : Profile → Stamp → Option (ℕ × Option ℕ) → ℕ → Bool
begins_plain p s None day = occurs p s day
begins_plain p s (Some last) day = shown_from p s day == day

-- a scheduled one begins as late as its delay says
abbrev pub begins_as : Profile → Role → Stamp → ℕ → Bool
begins_as p Plain s day = begins_plain p s s.last day
begins_as p Scheduled s day = occurs_delayed p s s.delay day
begins_as p Deadline s day = begins_plain p s s.last day

-- what the stamp stands for begins on the day
abbrev pub begins : Profile → HeadingStamp → ℕ → Bool
begins p s day = begins_as p s.role s.stamp day

-- the days on which it begins, among so many from a first one on
abbrev pub begin_days : Profile → HeadingStamp → ℕ → ℕ → List ℕ
begin_days p s first count = filter (begins p s) (range_with_len first count)

-- the day, if it begins on it
abbrev pub begin_on : Profile → HeadingStamp → ℕ → List ℕ
begin_on p s day = if begins p s day then day ∷ [] else []

-- a row of a kind stands on its own day: it is neither late nor a warning, and goes on with no range
abbrev pub is_own : RowKind → Bool
is_own OnDay = true
is_own OnSchedule = true
is_own OnDeadline = true
is_own _ = false

-- what a stamp stands for that is no range begins exactly where a day shows it as on its own day
abbrev pub BeginsAreRows : Type 0
BeginsAreRows = (p : Profile) (s : HeadingStamp) (today day : ℕ) → s.stamp.last ≡ None →
    list_any (λ (r : Ranked). is_own r.row.kind) (source_rows p today day s) ≡ begins p s day
