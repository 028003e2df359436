-- Sums of rows and of columns.
use Rattle.std.proofs.Common.{◌≡◌, ℕ, zero, suc, ◌+◌, ◌<◌, ◌≤◌, List, [], ◌∷◌, ◌++◌, refl, sym, ap, ◌∙◌, length, take, drop, get_or, take_all, add-one, sum, sum_by, arith}
use Rattle.std.specs.List.{All}
use Rattle.std.proofs.lemmas.List.{append_assoc, drop_more}
use Rattle.std.proofs.lemmas.List.Elements.{All-head, All-tail}
use Rattle.std.proofs.lemmas.List.Sums.{sum_by-cons, sum_by_more}
use Rattle.org_page.specs.Sums.{all_sum, blocks_from, column_sum, columns_sum, day_numbers, told, BlocksAddUp, ColumnsAddUp}
use Rattle.org_page.specs.declared.chart.Block.{Block}
use Rattle.org_page.specs.declared.chart.ChartDay.{ChartDay}

columns-nil : (n : ℕ) → columns_sum day_numbers n [] ≡ 0
columns-nil zero = refl
columns-nil (suc n) = omega (arith, columns-nil n)

columns-cons : (n : ℕ) (day : ChartDay) (days : List ChartDay) → n ≤ length (day_numbers day) → columns_sum day_numbers n (day ∷ days) ≡ sum (take n (day_numbers day)) + columns_sum day_numbers n days
columns-cons zero day days le = refl
columns-cons (suc n) day days le =
    let before : columns_sum day_numbers n (day ∷ days) ≡ sum (take n (day_numbers day)) + columns_sum day_numbers n days = columns-cons n day days (omega arith) in
    let own : column_sum day_numbers n (day ∷ days) ≡ get_or (day_numbers day) n 0 + column_sum day_numbers n days = sum_by-cons (λ (d : ChartDay). get_or (day_numbers d) n 0) day days in
    let more : sum (take (suc n) (day_numbers day)) ≡ sum (take n (day_numbers day)) + get_or (day_numbers day) n 0 = ap (λ k. sum (take k (day_numbers day))) (sym (add-one n)) ∙ sum_by_more (λ (x : ℕ). x) (day_numbers day) n 0 (omega arith) in
    omega (arith, before, own, more)

pub columns_add_up : ColumnsAddUp
columns_add_up files [] all = columns-nil files
columns_add_up files (day ∷ days) all =
    let len : length (day_numbers day) ≡ files = All-head (λ (d : ChartDay). length (day_numbers d) ≡ files) day days all in
    let rest : columns_sum day_numbers files days ≡ all_sum day_numbers days = columns_add_up files days (All-tail (λ (d : ChartDay). length (day_numbers d) ≡ files) day days all) in
    let first : columns_sum day_numbers files (day ∷ days) ≡ sum (take files (day_numbers day)) + columns_sum day_numbers files days = columns-cons files day days (omega arith) in
    let whole : sum (take files (day_numbers day)) ≡ sum (day_numbers day) = ap sum (take_all files (day_numbers day) (omega arith)) in
    let sums : all_sum day_numbers (day ∷ days) ≡ sum (day_numbers day) + all_sum day_numbers days = sum_by-cons (λ (d : ChartDay). sum (day_numbers d)) day days in
    omega (arith, rest, first, whole, sums)

pub blocks_add_up : BlocksAddUp
blocks_add_up below [] = refl
blocks_add_up below (own ∷ rest) =
    let block : Block = record { below = told below; minutes = own } in
    let blocks = sum_by-cons (λ (b : Block). b.minutes) block (blocks_from (below + own) rest) in
    let sums : sum (own ∷ rest) ≡ own + sum rest = sum_by-cons (λ (x : ℕ). x) own rest in
    blocks ∙ ap (λ n. own + n) (blocks_add_up (below + own) rest) ∙ sym sums

-- one number more
pub sum_more : (xs : List ℕ) (i : ℕ) → i < length xs → sum (take (i + 1) xs) ≡ sum (take i xs) + get_or xs i 0
sum_more xs i h = sum_by_more (λ (x : ℕ). x) xs i 0 h

-- one part more
pub blocks_told : (blocks new : List Block) (xs : List ℕ) (i below : ℕ) (target : List Block) → i < length xs →
    new ≡ blocks ++ (record { below = below; minutes = get_or xs i 0 } ∷ []) → below ≡ told (sum (take i xs)) →
    blocks ++ blocks_from (sum (take i xs)) (drop i xs) ≡ target → new ++ blocks_from (sum (take (i + 1) xs)) (drop (i + 1) xs) ≡ target
blocks_told blocks new xs i below target h added is_told all =
    let block : Block = record { below = told (sum (take i xs)); minutes = get_or xs i 0 } in
    ap (λ (t : List Block). t ++ blocks_from (sum (take (i + 1) xs)) (drop (i + 1) xs)) added
    ∙ append_assoc blocks _ _
    ∙ ap (λ (b : ℕ). blocks ++ (record { below = b; minutes = get_or xs i 0 } ∷ blocks_from (sum (take (i + 1) xs)) (drop (i + 1) xs))) is_told
    ∙ ap (λ (s : ℕ). blocks ++ (block ∷ blocks_from s (drop (i + 1) xs))) (sum_more xs i h)
    ∙ ap (λ (t : List ℕ). blocks ++ blocks_from (sum (take i xs)) t) (sym (drop_more xs i 0 h)) ∙ all
