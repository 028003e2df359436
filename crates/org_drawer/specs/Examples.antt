-- Worked examples: what the definitions say of inputs at which a wrong rule says something else.
use Rattle.std.specs.Prelude.{◌≡◌, Some, codes}
use Rattle.std.specs.Option.{option_and_then, option_map}
use Rattle.org_drawer.specs.Planning.{planning_of}

-- of a keyword that stands twice the last one counts (profile)
abbrev pub ExamplesHold : Type 0
ExamplesHold = option_and_then (λ p. option_map (λ s. s.1.at) p.scheduled) (planning_of (codes "SCHEDULED: <2024-02-28 Wed> SCHEDULED: <2024-02-29 Thu>")) ≡ Some 39
