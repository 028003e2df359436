-- The stamps of files, found by days (profile).
use Rattle.std.specs.Prelude.{◌≡◌, ℕ, List}
use Rattle.std.specs.List.{All, AllZip, sum_by}
use Rattle.org_inherit.specs.Scope.{Scope}
use Rattle.org_agenda.specs.Headings.{AllHaveHeads}
use Rattle.org_agenda.specs.Near.{IsSound}
use Rattle.org_agenda.specs.Sources.{sources_of}
use Rattle.org_agenda.specs.declared.as_of.AsOf.{AsOf}
use Rattle.org_stamp_index.specs.Held.{OutlineView}
use Rattle.org_stamp_index.specs.Near.{near_in}

-- what inheritance looks at is what the file says
abbrev pub IsOf : OutlineView → Scope → Type 0
IsOf d scope = (scope.entries ≡ d.entries) × (scope.settings ≡ d.settings)

-- what has to hold of files and of what their headings inherit
pub record AreDated (files : List OutlineView) (scopes : List Scope) : Type 0 where
  pub heads : AllHaveHeads scopes
  pub sound : All IsSound (sources_of 0 scopes)
  pub same : AllZip IsOf files scopes

-- how many stamps of a file are near the days from one to another
abbrev pub near_in_file : AsOf → ℕ → ℕ → OutlineView → ℕ
near_in_file seen from to d = near_in (record { profile = seen.profile; today = seen.today; from = from; to = to }) d.settings d.entries

-- the same of all files
abbrev pub near_in_all : AsOf → ℕ → ℕ → List OutlineView → ℕ
near_in_all seen from to files = sum_by (near_in_file seen from to) files
