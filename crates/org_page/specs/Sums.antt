-- Sums of minutes, and how the parts of a bar stand upon one another.
use Rattle.std.specs.Prelude.{◌≡◌, ℕ, zero, suc, ◌+◌, ◌-◌, ◌^◌, min, List, [], ◌∷◌, All, length, sum, sum_by, slice_index}
use Rattle.org_page.specs.declared.chart.Block.{Block}
use Rattle.org_page.specs.declared.chart.ChartDay.{ChartDay}

-- what is told of a sum: the sum itself, up to the greatest number that there is
abbrev pub told : ℕ → ℕ
told n = min n (2 ^ 64 - 1)

-- the minutes of a day, by files
abbrev pub day_numbers : ChartDay → List ℕ
day_numbers day = day.minutes.items

-- one column of a table whose rows have these numbers
abbrev pub column_sum : {X : Type 0} → (X → List ℕ) → ℕ → List X → ℕ
column_sum numbers column rows = sum_by (λ row. slice_index (numbers row) column) rows

-- so many columns together
abbrev pub columns_sum : {X : Type 0} → (X → List ℕ) → ℕ → List X → ℕ
columns_sum numbers zero rows = 0
columns_sum numbers (suc columns) rows = columns_sum numbers columns rows + column_sum numbers columns rows

-- all numbers of all rows
abbrev pub all_sum : {X : Type 0} → (X → List ℕ) → List X → ℕ
all_sum numbers rows = sum_by (λ row. sum (numbers row)) rows

-- a table adds up: what its files have is what all its days have, where each day tells of so many files
abbrev pub ColumnsAddUp : Type 0
ColumnsAddUp = (files : ℕ) (days : List ChartDay) → All (λ day. length (day_numbers day) ≡ files) days → columns_sum day_numbers files days ≡ all_sum day_numbers days

-- the parts of a bar upon one another, the first upon so many minutes
abbrev pub blocks_from : ℕ → List ℕ → List Block
blocks_from below [] = []
blocks_from below (own ∷ rest) = record { below = told below; minutes = own } ∷ blocks_from (below + own) rest

-- the parts of a bar are as long together as its minutes
abbrev pub BlocksAddUp : Type 0
BlocksAddUp = (below : ℕ) (minutes : List ℕ) → sum_by (λ (block : Block). block.minutes) (blocks_from below minutes) ≡ sum minutes
