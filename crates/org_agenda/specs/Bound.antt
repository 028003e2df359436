-- How many stamps an agenda examines (profile).
use Rattle.std.specs.Prelude.{ℕ, ◌+◌, ◌-◌, ◌≤◌, Bool, true, false, List, [], ◌∷◌, ◌++◌, Option, None, Some, filter, length}
use Rattle.std.specs.List.{All, list_any, range_with_len}
use Rattle.org_base.specs.declared.profile.Profile.{Profile}
use Rattle.org_entry.specs.declared.entry.Entry.{Entry}
use Rattle.org_head.specs.declared.head.Head.{Head}
use Rattle.org_inherit.specs.Scope.{Scope}
use Rattle.org_agenda.specs.Days.{source_rows}
use Rattle.org_agenda.specs.Lists.{Ranked}
use Rattle.org_agenda.specs.Near.{IsSound, near_sources}
use Rattle.org_agenda.specs.Sources.{entry_sources, owner_of, sources_of}
use Rattle.org_agenda.specs.declared.source.HeadingStamp.{HeadingStamp}

-- the active stamps of a heading, whether it is hidden or not
abbrev pub kept_at : Scope → ℕ → ℕ → Entry → Option Head → List HeadingStamp
kept_at scope file i e None = []
kept_at scope file i e (Some head) = entry_sources (owner_of scope file i e head) e

-- those of entries, the first of which stands at a place
abbrev pub kept_from : Scope → ℕ → ℕ → List Entry → List HeadingStamp
kept_from scope file i [] = []
kept_from scope file i (e ∷ es) = kept_at scope file i e e.head ++ kept_from scope file (i + 1) es

-- those of files, the first of which stands at a place
abbrev pub kept_of : ℕ → List Scope → List HeadingStamp
kept_of file [] = []
kept_of file (scope ∷ scopes) = kept_from scope file 0 scope.entries ++ kept_of (file + 1) scopes

-- how many stamps are near the days from one to another
abbrev pub near_count : Profile → ℕ → ℕ → ℕ → List Scope → ℕ
near_count p from to today scopes = length (near_sources p from to today (kept_of 0 scopes))

-- there is a row
abbrev pub is_some_row : List Ranked → Bool
is_some_row [] = false
is_some_row (r ∷ rs) = true

-- the stamp gives a row on one of so many days from a first one on
abbrev pub gives_row : Profile → ℕ → ℕ → ℕ → HeadingStamp → Bool
gives_row p first count today s = list_any (λ day. is_some_row (source_rows p today day s)) (range_with_len first count)

-- how many stamps give one
abbrev pub row_count : Profile → ℕ → ℕ → ℕ → List Scope → ℕ
row_count p first count today scopes = length (filter (gives_row p first count today) (sources_of 0 scopes))

-- no more stamps give a row than are near
abbrev pub RowsAreOfNear : Type 0
RowsAreOfNear = (p : Profile) (first count today : ℕ) (scopes : List Scope) → All IsSound (sources_of 0 scopes) →
    row_count p first count today scopes ≤ near_count p first (first + count - 1) today scopes
