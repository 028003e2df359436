-- The pairs of a planning line, and the stamp of a clock line (Org Syntax, "Planning"; "Clocks"; that pairs are read
-- up to what is no pair, and that letter case counts: profile).
use Rattle.std.specs.Prelude.{ℕ, zero, suc, ◌+◌, ◌-◌, Bool, true, false, not, if◌then◌else◌, List, [], ◌∷◌, drop, Option, Some, None, codes, nat_eq, ◌≡◌, ◌≤◌, MatchOption, ◌<◌, is_some}
use Rattle.std.specs.List.{prefix_len, starts_with}
use Rattle.std.specs.Option.{option_and_then, option_map}
use Rattle.org_stamp.specs.declared.pair.Pair.{Pair}
use Rattle.org_stamp.specs.declared.pair.PlanningKeyword.{PlanningKeyword}
use Rattle.org_stamp.specs.declared.pair.PlanningKeyword.TheVariants.{Scheduled, Deadline, Closed}
use Rattle.org_stamp.specs.declared.stamp.Stamp.{Stamp}
use Rattle.org_stamp.specs.Read.{single_of, stamp_of}
use Rattle.org_base.specs.Words.{is_space}

-- the keyword at the front, and its length with its colon
abbrev pub word_at : List ℕ → Option (PlanningKeyword × ℕ)
word_at bs =
    if starts_with nat_eq bs (codes "SCHEDULED:") then Some (Scheduled, 10)
    else (if starts_with nat_eq bs (codes "DEADLINE:") then Some (Deadline, 9)
    else (if starts_with nat_eq bs (codes "CLOSED:") then Some (Closed, 7) else None))

-- what is left after the white space at the front
abbrev pub past_spaces : List ℕ → List ℕ
past_spaces bs = drop (prefix_len is_space bs) bs

-- the pair of a keyword whose stamp begins at the place: the first stamp alone, and the end of the longest
abbrev pub pair_of : PlanningKeyword → ℕ → List ℕ → Option Pair
pair_of word at bs =
    option_and_then (λ all. option_map (λ first. record { word = word; stamp = first.0; at = at; len = first.1; end = at + all.1 }) (single_of bs)) (stamp_of bs)

-- the pair at the front of what stands at the place of a line: a keyword, white space or none, a stamp
abbrev pub pair_at : ℕ → List ℕ → Option Pair
pair_at at bs =
    option_and_then (λ k. let rest = drop k.1 bs in pair_of k.0 (at + (k.1 + prefix_len is_space rest)) (past_spaces rest)) (word_at bs)

-- the pairs of the bytes from a place of a line on, of which so many at the front are still of the last pair. White space
-- or none stands between pairs, and what is no pair ends them
unfoldable pub pairs_from : List ℕ → ℕ → ℕ → List Pair
pairs_from [] at _ = []
pairs_from (b ∷ bs) at zero = if is_space b then pairs_from bs (at + 1) 0
    else elim (pair_at at (b ∷ bs)) [ None ↦ [] | Some p ↦ p ∷ pairs_from bs (at + 1) (p.end - (at + 1)) ]
pairs_from (b ∷ bs) at (suc inside) = pairs_from bs (at + 1) inside

-- the first of the pairs from a place of a line on, after which come those from its end on; or there are none
abbrev pub IsFirstPair : List ℕ → ℕ → Option Pair → Type 0
IsFirstPair line at found =
    MatchOption found (pairs_from (drop at line) at 0 ≡ []) (λ p. pairs_from (drop at line) at 0 ≡ p ∷ pairs_from (drop p.end line) p.end 0)

-- a pair ends from a place on, and it and its first stamp no later than at a limit
abbrev pub EndsFrom : ℕ → ℕ → Pair → Type 0
EndsFrom at limit p = (at ≤ p.end) × (p.end ≤ limit) × (p.at + p.len ≤ limit)

-- a pair ends after a place, and it and its first stamp no later than at a limit
abbrev pub EndsBehind : ℕ → ℕ → Pair → Type 0
EndsBehind at limit p = (at < p.end) × (p.end ≤ limit) × (p.at + p.len ≤ limit)

-- the pairs of a line, from its front on
abbrev pub pairs : List ℕ → List Pair
pairs line = pairs_from line 0 0

-- there is no pair
abbrev pub is_empty : List Pair → Bool
is_empty [] = true
is_empty (p ∷ ps) = false

-- the line is a planning line, where it stands directly under a heading: it begins with a pair
abbrev pub is_planning : List ℕ → Bool
is_planning line = not (is_empty (pairs line))

-- the stamp of a clock line, which is inactive, and for a closed clock a range
abbrev pub clock_stamp : List ℕ → Option Stamp
clock_stamp line =
    let text = past_spaces line in
    if starts_with nat_eq text (codes "CLOCK:")
    then option_and_then (λ found. if found.0.active then None else Some found.0) (stamp_of (past_spaces (drop 6 text)))
    else None

-- the line is a clock line
abbrev pub is_clock : List ℕ → Bool
is_clock line = is_some (clock_stamp line)
