-- What is made of a heading that was found.
use Rattle.std.proofs.Common.{◌≡◌, ◌∙◌, ℕ, List, ap, sym}
use Rattle.std.specs.Prelude.{None, Option, Some, slice_get}
use Rattle.org_entry.specs.declared.entry.Entry.{Entry}
use Rattle.org_head.specs.declared.head.Head.{Head}
use Rattle.org_inherit.specs.Headings.{IsFoundIn, IsFoundUnder}
use Rattle.org_inherit.specs.Scope.{Scope}
use Rattle.org_inherit.specs.declared.headings.Heading.{Heading as FoundHeading}
use Rattle.org_client.specs.Headings.{by_entry, by_file, by_head, by_place}

under : (absent : List ℕ) (make : Scope → ℕ → Entry → Head → List ℕ) (file place : ℕ) (h : FoundHeading) (scope : Option Scope) →
    IsFoundUnder scope file place (Some h) → by_file absent make scope place ≡ make h.inherit.now h.place h.entry.now h.head.now
under absent make file place h None there = absurd cc
under absent make file place h (Some scope) there =
    ap (by_entry absent make scope place) there.entry
    ∙ ap (by_head absent make scope place h.entry.now) there.head
    ∙ (λ j. make (sym there.inherit j) (sym there.place j) h.entry.now h.head.now)

pub found_there : (absent : List ℕ) (make : Scope → ℕ → Entry → Head → List ℕ) (scopes : List Scope) (file place : ℕ) (h : FoundHeading) →
    IsFoundIn scopes file place (Some h) → by_place absent make scopes file place ≡ make h.inherit.now h.place h.entry.now h.head.now
found_there absent make scopes file place h there = under absent make file place h (slice_get scopes file) there
