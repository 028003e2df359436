-- The pairs of a planning line without the reader's steps (Org Syntax, "Planning"; that pairs are read up to what is no
-- pair, and that letter case counts: profile).
use Rattle.std.specs.Prelude.{◌≡◌, ℕ, ◌+◌, ◌≤◌, List, [], ◌∷◌, ◌++◌, length, codes}
use Rattle.org_stamp.specs.declared.pair.Pair.{Pair}
use Rattle.org_stamp.specs.declared.pair.PlanningKeyword.{PlanningKeyword}
use Rattle.org_stamp.specs.declared.pair.PlanningKeyword.TheVariants.{Scheduled, Deadline, Closed}
use Rattle.org_stamp.specs.declared.stamp.Stamp.{Stamp}
use Rattle.org_stamp.specs.Spaced.{IsGap}
use Rattle.org_stamp.specs.Stamp.{IsSingle, IsStamp}

-- a keyword and its colon
abbrev pub keyword_text : PlanningKeyword → List ℕ
keyword_text Scheduled = codes "SCHEDULED:"
keyword_text Deadline = codes "DEADLINE:"
keyword_text Closed = codes "CLOSED:"

-- no stamp that begins here is longer
abbrev pub IsLongest : List ℕ → List ℕ → Type 0
IsLongest stamp rest = (bytes left : List ℕ) (s : Stamp) → stamp ++ rest ≡ bytes ++ left → IsStamp bytes s → length bytes ≤ length stamp

-- a pair at the front of what stands from a place on: white space or none, a keyword and its colon, white space or none, and
-- the longest stamp, whose first one is kept with its place and length; then the rest
pub record IsPairAt (text : List ℕ) (at : ℕ) (p : Pair) (rest : List ℕ) : Type 0 where
  pub gap : List ℕ
  pub space : List ℕ
  pub single : List ℕ
  pub more : List ℕ
  pub whole : Stamp
  pub text_is : text ≡ gap ++ (keyword_text p.word ++ (space ++ ((single ++ more) ++ rest)))
  pub gap_is : IsGap gap
  pub space_is : IsGap space
  pub single_is : IsSingle single p.stamp
  pub stamp_is : IsStamp (single ++ more) whole
  pub longest : IsLongest (single ++ more) rest
  pub at_is : p.at ≡ at + length gap + length (keyword_text p.word) + length space
  pub len_is : p.len ≡ length single
  pub end_is : p.end ≡ p.at + length (single ++ more)

-- the pairs of what stands from a place on: each after the one before, until none follows
abbrev pub ArePairs : List ℕ → ℕ → List Pair → Type 0
ArePairs text at [] = (p : Pair) (rest : List ℕ) → IsPairAt text at p rest → ⊥
ArePairs text at (p ∷ ps) = (rest : List ℕ) × IsPairAt text at p rest × ArePairs rest p.end ps
