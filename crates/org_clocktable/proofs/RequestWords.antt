-- Words of the proofs about Request: parts of its definitions.
use Rattle.std.specs.Prelude.{ℕ, List, Option, None, Some}
use Rattle.std.specs.Option.{option_map, option_map_or, option_and_then}
use Rattle.org_clocktable.specs.Request.{as_text, word_at}
use Rattle.org_cal.specs.Blocks.{block_of}
use Rattle.org_clocktable.specs.declared.options.Draft.{Draft}

-- the expression, if one is written; refused where it is no UTF-8, which doesn't occur in a text that is
abbrev pub text_if : Option (List ℕ) → Option (Option (List ℕ))
text_if found = option_map_or (λ bytes. option_map Some (as_text bytes)) found (Some None)

-- the days of the block that options name, asked on a day
abbrev pub days_in : List ℕ → ℕ → Draft → Option (ℕ × ℕ)
days_in text today options = option_and_then (λ at. block_of (word_at text at) today) options.block_at
