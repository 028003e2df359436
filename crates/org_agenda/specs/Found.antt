-- What is found along a list, and at the headings of files.
use Rattle.std.specs.Option.{option_map_or}
use Rattle.std.specs.Prelude.{ℕ, ◌+◌, List, [], ◌∷◌, ◌++◌}
use Rattle.org_entry.specs.declared.entry.Entry.{Entry}
use Rattle.org_head.specs.declared.head.Head.{Head}
use Rattle.org_inherit.specs.Scope.{Scope}

-- what is found at the places of a list, one after another, of which the first has this number
abbrev pub found_from : {A X : Type 0} → (ℕ → A → List X) → ℕ → List A → List X
found_from finds i [] = []
found_from finds i (x ∷ xs) = finds i x ++ found_from finds (i + 1) xs

-- what is found at the headings of a file, one after another; the first of these entries stands at a place
abbrev pub in_file : {X : Type 0} → (ℕ → Entry → Head → List X) → ℕ → List Entry → List X
in_file finds i es = found_from (λ k (e : Entry). option_map_or (finds k e) e.head []) i es

-- what is found at the headings of files, one after another; the first of these files stands at a place
abbrev pub in_files : {X : Type 0} → (Scope → ℕ → ℕ → Entry → Head → List X) → ℕ → List Scope → List X
in_files finds file scopes =
    found_from (λ k (scope : Scope). found_from (λ i (e : Entry). option_map_or (finds scope k i e) e.head []) 0 scope.entries) file scopes
