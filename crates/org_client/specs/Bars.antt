-- How long bars are: of a sum beside the longest, in eighths of a column or in columns.
use Rattle.std.specs.Prelude.{ℕ, ◌+◌, ◌-◌, ◌*◌, ◌/◌, ◌&&◌, ◌==◌, min, nat_lt, if◌then◌else◌, List, [], ◌∷◌}

-- as much of some units as a part is of a whole, rounded to the nearest, halves up; nothing of nothing
abbrev pub share_of : ℕ → ℕ → ℕ → ℕ
share_of part whole units = if whole == 0 then 0 else (part * units + whole / 2) / whole

-- so many units, but at least one of what isn't nothing
abbrev pub shown_length : ℕ → ℕ → ℕ
shown_length minutes units = if nat_lt 0 minutes && (units == 0) then 1 else units

-- the length of a bar in eighths of a column; the greatest sum takes all columns, and a greater one no more
abbrev pub bar_eighths : ℕ → ℕ → ℕ → ℕ
bar_eighths minutes most columns = shown_length minutes (share_of (min minutes most) most (columns * 8))

-- a part of a whole in hundredths
abbrev pub hundredths : ℕ → ℕ → ℕ
hundredths part whole = share_of (min part whole) whole 100

-- the lengths of the parts of a stacked bar, the first of which begins after a sum: each from where the one before ends to where
-- all up to it end, and none past the greatest sum
abbrev pub lengths_from : ℕ → ℕ → ℕ → List ℕ → List ℕ
lengths_from so_far most columns [] = []
lengths_from so_far most columns (sum ∷ sums) =
    (share_of (min (so_far + sum) most) most columns - share_of so_far most columns) ∷ lengths_from (min (so_far + sum) most) most columns sums

abbrev pub part_lengths : ℕ → ℕ → List ℕ → List ℕ
part_lengths most columns sums = lengths_from 0 most columns sums
