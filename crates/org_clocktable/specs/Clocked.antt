-- Which headings of a file have minutes in some days, their own or of headings below them.
use Rattle.std.specs.Prelude.{◌≡◌, ℕ, ◌+◌, ◌<◌, ◌≤◌, true, is_some, List, Option, None, Some, length}
use Rattle.org_clocktable.specs.Counted.{Counted, clocks_before, heading_sum}
use Rattle.org_clocktable.specs.RunningSums.{Sums, before}
use Rattle.org_entry.specs.declared.entry.Entry.{Entry}
use Rattle.org_outline.specs.Levels.{levels}
use Rattle.org_outline.specs.Tree.{level_at}
use Rattle.org_sum.specs.Measures.{clock_minutes}

-- the sums are those of a file's clocks
abbrev pub AreOf : Sums → Counted → Type 0
AreOf sums file = (place : ℕ) → before sums place ≡ clocks_before sums.days file place

-- a heading stands at the place, or it is the end
pub record IsHeadingOrEnd (es : List Entry) (place : ℕ) : Type 0 where
  pub within : place ≤ length es
  pub heading : place < length es → is_some (level_at (levels es) place) ≡ true

-- no heading from one place on up to another has minutes in the days
abbrev pub NoneHas : ℕ × ℕ → Counted → ℕ → ℕ → Type 0
NoneHas days file from to = (i : ℕ) → from ≤ i → i < to → heading_sum (clock_minutes days) file i ≡ 0

-- a heading before a place, after which none has minutes up to there; none where none before has
abbrev pub IsLastClocked : ℕ × ℕ → Counted → ℕ → Option ℕ → Type 0
IsLastClocked days file below None = NoneHas days file 0 below
IsLastClocked days file below (Some place) = (place < below) × IsHeadingOrEnd file.entries place × NoneHas days file (place + 1) below
