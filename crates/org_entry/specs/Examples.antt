-- Worked examples: what the definitions say of inputs at which a wrong rule says something else.
use Rattle.std.specs.Prelude.{◌≡◌, [], ◌∷◌, map, codes}
use Rattle.org_entry.specs.Entry.{active_at}

-- of two stamps the active one counts (Org manual 9.6, "Timestamps")
abbrev pub ExamplesHold : Type 0
ExamplesHold = map (λ f. f.at) (active_at 0 (codes "[2024-02-28 Wed] <2024-02-29 Thu>")) ≡ 17 ∷ []
