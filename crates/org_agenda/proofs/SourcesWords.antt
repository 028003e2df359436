-- Words of the proofs about Sources: parts of its definitions.
use Rattle.org_agenda.specs.Found.{in_file}
use Rattle.std.specs.Option.{option_map_or}
use Rattle.std.specs.Prelude.{ℕ, List, [], Option}
use Rattle.org_entry.specs.declared.entry.Entry.{Entry}
use Rattle.org_head.specs.declared.head.Head.{Head}
use Rattle.org_inherit.specs.Scope.{Scope}
use Rattle.org_agenda.specs.declared.source.HeadingStamp.{HeadingStamp}
use Rattle.org_agenda.specs.Sources.{heading_sources}

-- the active stamps of an entry with this head; none where it is hidden, or has no head
abbrev pub head_sources : Scope → ℕ → ℕ → Entry → Option Head → List HeadingStamp
head_sources scope file i e found = option_map_or (heading_sources scope file i e) found []

-- those of the entry at a place of a file
abbrev pub sources_at : Scope → ℕ → ℕ → Entry → List HeadingStamp
sources_at scope file i e = head_sources scope file i e e.head

-- the active stamps of entries, of which the first stands at place i of its file
abbrev pub sources_from : Scope → ℕ → ℕ → List Entry → List HeadingStamp
sources_from scope file i es = in_file (heading_sources scope file) i es
