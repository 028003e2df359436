-- Which stamps of headings are near some days (profile; delays and warnings as in Org manual 9.6, "Deadlines and
-- Scheduling").
use Rattle.std.specs.Prelude.{◌≡◌, ℕ, ◌≤◌, Bool, false, ◌&&◌, ◌||◌, List, [], filter, map, None}
use Rattle.std.specs.List.{All}
use Rattle.org_base.specs.declared.profile.Profile.{Profile}
use Rattle.org_cal.specs.Days.{IsDay}
pub use Rattle.org_entry.specs.Active.{is_planned}
use Rattle.org_entry.specs.Entry.{entry_of}
use Rattle.org_index.specs.Reaches.{reach_of}
use Rattle.org_index.specs.Near.{touches, warns}
use Rattle.org_inherit.specs.Scope.{Scope}
use Rattle.org_settings.specs.Settings.{FileSettings}
use Rattle.org_agenda.specs.Days.{day_rows, source_rows}
use Rattle.org_agenda.specs.Sources.{file_sources}
use Rattle.org_entry.specs.declared.active.Role.TheVariants.{Scheduled}
use Rattle.org_agenda.specs.declared.source.HeadingStamp.{HeadingStamp}

-- it stands in the planning line of a heading without a done keyword
abbrev pub is_reminding : HeadingStamp → Bool
is_reminding s = is_planned s.role && s.owner.is_open

-- the stamp is near the days: it touches them, or it warns or is late today, and today is one of them
abbrev pub is_near : Profile → ℕ → ℕ → ℕ → HeadingStamp → Bool
is_near p from to today s = touches from to (reach_of p s.stamp) || (is_reminding s && warns from to today (reach_of p s.stamp))

-- those that are near
abbrev pub near_sources : Profile → ℕ → ℕ → ℕ → List HeadingStamp → List HeadingStamp
near_sources p from to today sources = filter (is_near p from to today) sources

-- what each stamp has that was read: its day is one of the calendar, and where the heading is scheduled for it, it is no
-- range
pub record IsSound (s : HeadingStamp) : Type 0 where
  pub day : IsDay s.stamp.day
  pub single : s.role ≡ Scheduled → s.stamp.last ≡ None

-- a stamp that isn't near gives no row on any of the days
abbrev pub RowsAreNear : Type 0
RowsAreNear = (p : Profile) (s : HeadingStamp) (from to today day : ℕ) → IsSound s → from ≤ day → day ≤ to → is_near p from to today s ≡ false → source_rows p today day s ≡ []

-- the stamps that are near give the rows that all give
abbrev pub NearGiveAll : Type 0
NearGiveAll = (p : Profile) (sources : List HeadingStamp) (from to today day : ℕ) → All IsSound sources → from ≤ day → day ≤ to →
    day_rows p (near_sources p from to today sources) today day ≡ day_rows p sources today day

-- the stamps of a file whose entries were read of sections are sound
abbrev pub ReadStampsAreSound : Type 0
ReadStampsAreSound = (scope : Scope) (file : ℕ) (settings : FileSettings) (sections : List (List ℕ)) → scope.entries ≡ map (entry_of settings) sections → All IsSound (file_sources scope file)
