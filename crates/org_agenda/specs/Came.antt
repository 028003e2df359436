-- In which order rows come before they are arranged: by file, heading and place (profile).
use Rattle.std.specs.Prelude.{◌≡◌, ◌⊎◌, ◌<◌, ◌≤◌, ℕ, List, [], ◌∷◌, map}
use Rattle.std.specs.List.{AllByRecursion}
use Rattle.org_entry.specs.Entry.{entry_of}
use Rattle.org_inherit.specs.Scope.{Scope}
use Rattle.org_settings.specs.Settings.{FileSettings}
use Rattle.org_agenda.specs.Lists.{Listing, Ranked, file_rows}
use Rattle.org_agenda.specs.Sources.{sources_of}
use Rattle.org_agenda.specs.declared.source.HeadingStamp.{HeadingStamp}

-- each item stands so to all behind it
abbrev pub Ascend : {X : Type 0} → (X → X → Type 0) → List X → Type 0
Ascend R [] = Unit {0}
Ascend R (x ∷ xs) = AllByRecursion (R x) xs × Ascend R xs

-- a stamp stands in an earlier file, under an earlier heading of one file, or at no later place under one heading
abbrev pub IsNoLater : HeadingStamp → HeadingStamp → Type 0
IsNoLater a b = (a.owner.file < b.owner.file)
    ⊎ ((a.owner.file ≡ b.owner.file) × ((a.owner.heading < b.owner.heading) ⊎ ((a.owner.heading ≡ b.owner.heading) × (a.stamp_at ≤ b.stamp_at))))

-- a row is of an earlier file, or of an earlier heading of one file
abbrev pub IsEarlier : Ranked → Ranked → Type 0
IsEarlier a b = (a.row.file < b.row.file) ⊎ ((a.row.file ≡ b.row.file) × (a.row.heading < b.row.heading))

-- the entries of each file were read of sections
abbrev pub AreReadOf : List Scope → Type 0
AreReadOf [] = Unit {0}
AreReadOf (s ∷ ss) = ((settings : FileSettings) × (sections : List (List ℕ)) × (s.entries ≡ map (entry_of settings) sections)) × AreReadOf ss

-- the stamps of files come by file, heading and place
abbrev pub SourcesAscend : Type 0
SourcesAscend = (scopes : List Scope) → AreReadOf scopes → Ascend IsNoLater (sources_of 0 scopes)

-- the rows of a list come by file and heading, each heading once
abbrev pub ListsAscend : Type 0
ListsAscend = (listing : Listing) (scopes : List Scope) → Ascend IsEarlier (file_rows listing 0 scopes)
