-- Bars of ranges.
use Rattle.std.proofs.Common.{◌≡◌, ℕ, zero, suc, ◌-◌, ◌≤◌, ◌==◌, cond, [], ◌∷◌, refl, sym, subst, arith}
use Rattle.std.specs.List.{flat_map}
use Rattle.org_look.specs.Ranges.{BarText, RangesHaveOneBar, SeenHaveNoBar, last_day, lengths, range_bar}

-- of the lengths up to six just one is a number up to six
one_length : (bar : BarText) (d : ℕ) → d ≤ 6 → flat_map (λ more. cond (d == more) (bar ∷ []) []) lengths ≡ bar ∷ []
one_length bar zero le = refl
one_length bar (suc zero) le = refl
one_length bar (suc (suc zero)) le = refl
one_length bar (suc (suc (suc zero))) le = refl
one_length bar (suc (suc (suc (suc zero)))) le = refl
one_length bar (suc (suc (suc (suc (suc zero))))) le = refl
one_length bar (suc (suc (suc (suc (suc (suc zero)))))) le = refl
one_length bar (suc (suc (suc (suc (suc (suc (suc d))))))) le = absurd (omega (arith, le))

few : (column ahead : ℕ) → last_day column ahead - column ≤ 6
few column ahead = omega (arith)

pub ranges_have_one_bar : RangesHaveOneBar
ranges_have_one_bar column day of label le unseen =
    let bar = range_bar column day of label in
    let d = last_day column (of - day) - column in
    subst (λ seen. flat_map (λ more. cond seen [] (cond (d == more) (bar ∷ []) [])) lengths ≡ bar ∷ []) (sym unseen) (one_length bar d (few column (of - day)))

pub seen_have_no_bar : SeenHaveNoBar
seen_have_no_bar column more day of label seen =
    let bar = range_bar column day of label in
    subst (λ it. cond it [] (cond ((last_day column (of - day) - column) == more) (bar ∷ []) []) ≡ []) (sym seen) refl
