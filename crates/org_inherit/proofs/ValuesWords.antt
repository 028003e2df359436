-- Words of the proofs about Values: parts of its definitions.
use Rattle.std.specs.Option.{option_map_or}
use Rattle.std.specs.Prelude.{ℕ, Option, None, List}
use Rattle.org_base.specs.Properties.{Property, value_in}
use Rattle.org_head.specs.declared.head.Head.{Head}

-- what a drawer gives that stands under no heading; one under a heading gives nothing
abbrev pub value_without_head : Option Head → List Property → List ℕ → Option (List ℕ)
value_without_head found drawer name = option_map_or (λ head. None) found (value_in drawer name)
