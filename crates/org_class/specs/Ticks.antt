-- Counting what was classified (profile).
use Rattle.std.specs.Prelude.{ℕ, zero, suc, ◌≡◌, ◌≤◌, List, length}
use Rattle.org_base.specs.Counts.{Counts, ticked}
use Rattle.org_base.specs.declared.meter.Tick.TheVariants.{Classify}
use Rattle.org_class.specs.Sections.{sections}

-- the counts after so many sections were classified
abbrev pub classified : ℕ → Counts → Counts
classified zero counts = counts
classified (suc n) counts = ticked Classify (classified n counts)

-- each section of a text was classified
abbrev pub AllClassified : List ℕ → Counts → Counts → Type 0
AllClassified text old new = new ≡ classified (length (sections text)) old

-- so many sections of a text were classified, or fewer
abbrev pub SomeClassified : List ℕ → Counts → Counts → Type 0
SomeClassified text old new = (n : ℕ) × (n ≤ length (sections text)) × (new ≡ classified n old)
