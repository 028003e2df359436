-- The parts of a text between colons (Org Syntax, "Headings").
use Rattle.std.specs.Prelude.{ℕ, ◌+◌, if◌then◌else◌, ◌==◌, List, [], ◌∷◌, ◌++◌}
use Rattle.org_base.specs.declared.span.Span.{Span}
use Rattle.org_head.specs.Parts.{is_colon}

-- a part of a line, unless it is empty
abbrev pub span : ℕ → ℕ → List Span
span at len = if len == 0 then [] else record { at = at; len = len } ∷ []

-- the parts between colons of a text, as parts of the line. So many bytes of the first part stand before the text, from a
-- place on
abbrev pub spans_from : ℕ → ℕ → List ℕ → List Span
spans_from at len [] = span at len
spans_from at len (b ∷ bs) = if is_colon b then span at len ++ spans_from (at + len + 1) 0 bs else spans_from at (len + 1) bs
