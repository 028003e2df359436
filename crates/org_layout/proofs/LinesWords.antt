-- Words of the proofs about Lines: parts of its definitions.
use Rattle.std.specs.Option.{option_map_or}
use Rattle.std.specs.Prelude.{ℕ, List, [], Option}
use Rattle.org_head.specs.declared.head.Head.{Head}
use Rattle.org_layout.specs.Lines.{head_text}

-- what is shown of an entry, by its head; nothing of one without
abbrev pub head_text_if : List ℕ → Option Head → List (List ℕ) → List ℕ
head_text_if text found tags = option_map_or (λ head. head_text text head tags) found []
