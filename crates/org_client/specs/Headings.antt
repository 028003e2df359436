-- What is made of the heading at a place of a file, and what stands for it where none is there.
use Rattle.std.specs.Prelude.{ℕ, List, Option, None, Some, slice_get}
use Rattle.org_entry.specs.declared.entry.Entry.{Entry}
use Rattle.org_head.specs.declared.head.Head.{Head}
use Rattle.org_inherit.specs.Scope.{Scope}

-- of an entry, if it has a head
abbrev pub by_head : List ℕ → (Scope → ℕ → Entry → Head → List ℕ) → Scope → ℕ → Entry → Option Head → List ℕ
by_head absent make scope i e None = absent
by_head absent make scope i e (Some head) = make scope i e head

-- of an entry, if there is one
abbrev pub by_entry : List ℕ → (Scope → ℕ → Entry → Head → List ℕ) → Scope → ℕ → Option Entry → List ℕ
by_entry absent make scope i None = absent
by_entry absent make scope i (Some e) = by_head absent make scope i e e.head

-- of the one at a place of a file, if there is such a file
abbrev pub by_file : List ℕ → (Scope → ℕ → Entry → Head → List ℕ) → Option Scope → ℕ → List ℕ
by_file absent make None i = absent
by_file absent make (Some scope) i = by_entry absent make scope i (slice_get scope.entries i)

-- of the one at a place of the file at another
abbrev pub by_place : List ℕ → (Scope → ℕ → Entry → Head → List ℕ) → List Scope → ℕ → ℕ → List ℕ
by_place absent make scopes file i = by_file absent make (slice_get scopes file) i
