-- Counts of classified and read sections (profile).
use Rattle.std.specs.Prelude.{◌≡◌, ◌≤◌, ℕ, zero, suc, List, length}
use Rattle.org_base.specs.Counts.{Counts, ticked}
use Rattle.org_base.specs.Spans.{bytes_in}
use Rattle.org_base.specs.declared.meter.Tick.TheVariants.{Read}
use Rattle.org_base.specs.declared.span.Span.{Span}
use Rattle.org_class.specs.Changes.{new_sections}
use Rattle.org_class.specs.Ticks.{AllClassified, SomeClassified, classified}
use Rattle.org_store.specs.declared.change.Change.{Change}

-- the counts after so many sections were read
abbrev pub have_read : ℕ → Counts → Counts
have_read zero counts = counts
have_read (suc n) counts = ticked Read (have_read n counts)

-- so many sections were read, or fewer
abbrev pub SomeRead : ℕ → Counts → Counts → Type 0
SomeRead most old new = (n : ℕ) × (n ≤ most) × (new ≡ have_read n old)

-- each section of a part of a text was classified
abbrev pub AllOfPart : List ℕ → Span → Counts → Counts → Type 0
AllOfPart text part old new = AllClassified (bytes_in text part) old new

-- so many of them, or fewer
abbrev pub SomeOfPart : List ℕ → Span → Counts → Counts → Type 0
SomeOfPart text part old new = SomeClassified (bytes_in text part) old new

-- each section that a change of a text makes was classified
abbrev pub NewClassified : List ℕ → Change → Counts → Counts → Type 0
NewClassified text change old new =
    new ≡ classified (length (new_sections text change.at change.del change.ins.now)) old

-- so many of them, or fewer
abbrev pub FewNewClassified : List ℕ → Change → Counts → Counts → Type 0
FewNewClassified text change old new =
    (n : ℕ) × (n ≤ length (new_sections text change.at change.del change.ins.now)) × (new ≡ classified n old)
