-- Words of the proofs about Holding: parts of its definitions.
use Rattle.org_agenda.specs.Found.{found_from}
use Rattle.std.specs.Option.{option_map_or}
use Rattle.std.specs.Prelude.{ℕ, Bool, false, List, [], ◌∷◌, Option}
use Rattle.org_cal.specs.declared.moment.Moment.{Moment}
use Rattle.org_entry.specs.declared.entry.Entry.{Entry}
use Rattle.org_expression.specs.Grammar.{Expr}
use Rattle.org_head.specs.declared.head.Head.{Head}
use Rattle.org_inherit.specs.Scope.{Scope}
use Rattle.org_agenda.specs.Headings.{heading_holds}

-- the expression holds of the entry at a place; of one without head, which is no heading, it doesn't
abbrev pub entry_holds : Expr → Moment → Scope → ℕ → Entry → Option Head → Bool
entry_holds expr moment scope i e found = option_map_or (heading_holds expr moment scope i e) found false

-- whether the expression holds, of each of the entries, of which the first stands at place i of its file
abbrev pub holds_from : Expr → Moment → Scope → ℕ → List Entry → List Bool
holds_from expr moment scope i es = found_from (λ k (e : Entry). option_map_or (heading_holds expr moment scope k e) e.head false ∷ []) i es
