-- Words of the proofs about Patterns: parts of its definitions.
use Rattle.std.specs.Option.{option_map_or}
use Rattle.std.specs.Prelude.{ℕ, Bool, false, List, Option, is_some}
use Rattle.regex_syntax.specs.Grammar.{Names}
use Rattle.regex_syntax.specs.Brackets.{Nested}
use Rattle.regex.specs.Patterns.{Re, find_str}

-- whether a pattern, as the grammar of `regex`'s dialect reads it, has a match in the text; one that it doesn't read has
-- none
abbrev pub found_by : Option (Nested Re × Names) → List ℕ → Bool
found_by found text = option_map_or (λ parts. is_some (find_str parts.0.value text 0)) found false
