-- Words of the proofs about Sections: parts of its definitions.
use Rattle.std.specs.Prelude.{ℕ, Bool, ◌&&◌, ◌==◌, List}
use Rattle.org_class.specs.Heading.{begins_heading}

-- a section ends after a line feed that a heading line follows
abbrev pub ends_section : ℕ → List ℕ → Bool
ends_section b bs = (b == 10) && begins_heading bs
