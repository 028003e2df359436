-- Words of the proofs about Tags: parts of its definitions.
use Rattle.std.specs.Option.{option_map_or}
use Rattle.std.specs.Prelude.{ℕ, List, [], Option, map}
use Rattle.org_base.specs.Spans.{bytes_in}
use Rattle.org_head.specs.declared.head.Head.{Head}

-- the tags that a heading line itself names, in order and each as often as it is named
abbrev pub tags_of_head : List ℕ → Option Head → List (List ℕ)
tags_of_head text found = option_map_or (λ head. map (bytes_in text) head.tags) found []
