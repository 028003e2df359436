-- The heading at a place of a file, by all that is known of it.
use Rattle.std.specs.Prelude.{◌≡◌, ℕ, List, Option, None, Some, slice_get}
use Rattle.org_entry.specs.declared.entry.Entry.{Entry}
use Rattle.org_inherit.specs.Scope.{Scope}
use Rattle.org_inherit.specs.declared.headings.Heading.{Heading}

-- the heading is that of the entry at a place of a file
pub record IsAtPlace (scope : Scope) (k i : ℕ) (heading : Heading) : Type 0 where
  pub inherit : heading.inherit.now ≡ scope
  pub file : heading.file ≡ k
  pub place : heading.place ≡ i
  pub entry : slice_get scope.entries i ≡ Some heading.entry.now
  pub head : heading.entry.now.head ≡ Some heading.head.now

-- what is found at a place of a file: its heading; none where no entry stands there, or one without head
abbrev pub IsFoundAt : Scope → ℕ → ℕ → Option Heading → Type 0
IsFoundAt scope file i None = (e : Entry) → slice_get scope.entries i ≡ Some e → e.head ≡ None
IsFoundAt scope file i (Some heading) = IsAtPlace scope file i heading

-- what is found in the file at a place, if there is one: nothing where there is none
abbrev pub IsFoundUnder : Option Scope → ℕ → ℕ → Option Heading → Type 0
IsFoundUnder None file place found = found ≡ None
IsFoundUnder (Some scope) file place found = IsFoundAt scope file place found

-- what is found at a place of the file at another
abbrev pub IsFoundIn : List Scope → ℕ → ℕ → Option Heading → Type 0
IsFoundIn scopes file place found = IsFoundUnder (slice_get scopes file) file place found
