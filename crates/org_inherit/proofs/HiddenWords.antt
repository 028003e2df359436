-- Words of the proofs about Hidden: parts of its definitions.
use Rattle.std.specs.Prelude.{ℕ, Bool, false, List, map, get_or}
use Rattle.org_entry.specs.declared.entry.Entry.{Entry}
use Rattle.org_inherit.specs.Hidden.{hides}

-- the entry at a place hides itself and what is below it
abbrev pub hides_at : List Entry → ℕ → Bool
hides_at es j = get_or (map hides es) j false
