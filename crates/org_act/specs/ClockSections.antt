-- The section whose clock is changed, by its place among those of a text.
use Rattle.std.specs.Prelude.{ℕ, List, length}
use Rattle.org_base.specs.declared.span.Span.{Span}
use Rattle.org_store.specs.Begun.{section_of, section_start}

-- the section at a place
abbrev pub span_at : List ℕ → ℕ → Span
span_at text place = record { at = section_start text place; len = length (section_of text place) }
