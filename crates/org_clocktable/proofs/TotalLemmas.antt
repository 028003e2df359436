-- The first row of a step.
use Rattle.std.proofs.Common.{◌≡◌, ◌∙◌, ◌+◌, ℕ, zero, suc, Bool, List, [], ◌∷◌, length, ap, ap₂, arith, refl, sym}
use Rattle.std.specs.Prelude.{Some}
use Rattle.std.proofs.lemmas.List.Sums.{sum_by-cons}
use Rattle.org_entry.specs.declared.entry.Entry.{Entry}
use Rattle.org_clocktable.specs.Counted.{Counted, total}
use Rattle.org_clocktable.specs.Laws.{TotalsAreOfAllThatCount, counting, counting_in}
use Rattle.org_clocktable.specs.Table.{step_rows}
use Rattle.org_clocktable.specs.declared.row.Of.TheVariants.{All}
use Rattle.org_sum.specs.Measures.{clock_minutes, effort_minutes}
use Rattle.org_sum.specs.Sums.{own, own_at, sum_below, whole_sum}

-- a sum from its front
from_front : (g : ℕ → ℕ) (n : ℕ) → sum_below g (suc n) ≡ g 0 + sum_below (λ j. g (suc j)) n
from_front g zero = omega arith
from_front g (suc n) = omega (arith, from_front g n)

nothing : (g : ℕ → ℕ) (n : ℕ) → ((j : ℕ) → g j ≡ 0) → sum_below g n ≡ 0
nothing g zero none = refl
nothing g (suc n) none = omega (arith, nothing g n none, none n)

counted_sum : (f : Entry → ℕ) (es : List Entry) (cs : List Bool) → whole_sum f es cs ≡ counting f es cs
counted_sum f [] cs = refl
counted_sum f (e ∷ es) [] = nothing (own_at f (e ∷ es) []) (length (e ∷ es)) (λ j. refl)
counted_sum f (e ∷ es) (c ∷ cs) = from_front (own_at f (e ∷ es) (c ∷ cs)) (length es) ∙ ap (λ (n : ℕ). own f e c + n) (counted_sum f es cs)

all_files : (f : Entry → ℕ) (files : List Counted) → total f files ≡ counting_in f files
all_files f [] = refl
all_files f (c ∷ cs) =
    ap₂ (λ (a b : ℕ). a + b) (counted_sum f c.entries c.counted) (all_files f cs)
    ∙ sym (sum_by-cons (λ (file : Counted). counting f file.entries file.counted) c cs)

pub totals : TotalsAreOfAllThatCount
unfolding step_rows
totals days most files = ap₂ (λ (clock effort : ℕ). Some (record { of = All; clock = clock; effort = effort })) (all_files (clock_minutes days) files) (all_files effort_minutes files)
