-- A period cut into pieces: whole, into its days, or before its Mondays (Org manual 9.6, "The clock table").
use Rattle.std.specs.Prelude.{◌≡◌, ◌≢◌, ◌⊎◌, ℕ, zero, suc, ◌+◌, ◌-◌, ◌<◌, ◌≤◌, min, nat_lt, if◌then◌else◌, List, [], ◌∷◌}
use Rattle.std.specs.List.{AllByRecursion}
use Rattle.org_cal.specs.declared.steps.Step.{Step}
use Rattle.org_cal.specs.declared.steps.Step.TheVariants.{Whole, Day, Week}
use Rattle.org_cal.specs.Parts.{weekday_of}
use Rattle.org_cal.specs.Weeks.{monday_of}

-- the last day of a piece that begins on a day, in a period with this last day; by weeks it is a Sunday or the period's
-- last
abbrev pub piece_end : Step → ℕ → ℕ → ℕ
piece_end Whole last first = last
piece_end Day last first = first
piece_end Week last first = min last (monday_of first + 6)

-- the pieces from a day to the last one, at most n of them
unfoldable pub cut_from : ℕ → Step → ℕ → ℕ → List (ℕ × ℕ)
cut_from zero step last first = []
cut_from (suc n) step last first =
    if nat_lt last first then [] else (first, piece_end step last first) ∷ cut_from n step last (piece_end step last first + 1)

-- the pieces from a first day to a last, each with its first and its last day
abbrev pub pieces : Step → ℕ → ℕ → List (ℕ × ℕ)
pieces step last first = cut_from (last + 1 - first) step last first

-- the pieces follow one another from the first day to the last
abbrev pub AreJoined : ℕ → List (ℕ × ℕ) → ℕ → Type 0
AreJoined first [] last = first ≡ last + 1
AreJoined first (p ∷ ps) last = (p.0 ≡ first) × (p.0 ≤ p.1) × AreJoined (p.1 + 1) ps last

-- what a piece holds: all to the last day; one day; no Monday but at its front, and all up to the next one
abbrev pub IsPiece : Step → ℕ → ℕ × ℕ → Type 0
IsPiece Whole last p = p.1 ≡ last
IsPiece Day last p = p.1 ≡ p.0
IsPiece Week last p =
    ((day : ℕ) → p.0 < day → day ≤ p.1 → weekday_of day ≢ 0) × ((p.1 ≡ last) ⊎ (weekday_of (p.1 + 1) ≡ 0))

-- the pieces of a period, in order
pub record AreCut (step : Step) (first last : ℕ) (ps : List (ℕ × ℕ)) : Type 0 where
  pub joined : AreJoined first ps last
  pub each : AllByRecursion (IsPiece step last) ps
