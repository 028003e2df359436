-- Headings that short ids name (profile).
use Rattle.std.specs.Prelude.{◌≡◌, ℕ, List, true}
use Rattle.org_client.specs.RowIds.{IdsView, key_of, stands_for_some, sum_in}
use Rattle.org_client.specs.declared.row_ids.HeadingAt.{HeadingAt}
use Rattle.orgq_acts.specs.declared.found.Among.{Among}
use Rattle.orgq_acts.specs.declared.found.Among.TheVariants.{One}

-- a word stands for a heading among those of these ids
abbrev pub IsNamed : List ℕ → IdsView → HeadingAt → Type 0
IsNamed word ids at = stands_for_some word (sum_in ids (key_of at)) ≡ true

-- where one heading was found, the word stands for it
abbrev pub StandsFor : List ℕ → IdsView → Among → Type 0
StandsFor word ids (One at) = IsNamed word ids at
StandsFor word ids _ = Unit
