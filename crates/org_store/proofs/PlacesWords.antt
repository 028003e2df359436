-- Words of the proofs about Places: parts of its definitions.
use Rattle.std.specs.Prelude.{ℕ, ◌+◌, List}
use Rattle.org_store.specs.Begun.{lines_before, section_start}
use Rattle.org_store.specs.declared.place.Place.{Place}

-- where the section at a place begins: after the bytes and the lines of those before it
abbrev pub place_of : List ℕ → ℕ → Place
place_of text section = record { at = section_start text section; line = lines_before text section + 1 }
