-- The ancestors, step by step.
use Rattle.std.proofs.Common.{◌≡◌, ℕ, zero, suc, ◌<◌, ◌≤◌, Option, Some, None, List, [], ◌∷◌, refl, ap, arith}
use Rattle.org_outline.specs.Tree.{level_at, is_smaller, parent, chain, ancestors, up_from}
use Rattle.org_outline.proofs.Search.{greatest_some}

abbrev next : List (Option ℕ) → ℕ → Option ℕ → List ℕ
next ls n p = elim p [ None ↦ [] | Some j ↦ j ∷ chain ls n j ]

pub parent_earlier : (ls : List (Option ℕ)) (i j : ℕ) → parent ls i ≡ Some j → j < i
parent_earlier ls i j e = (greatest_some (λ x. is_smaller (level_at ls x) (level_at ls i)) i j e).below

chain_next : (ls : List (Option ℕ)) (n m : ℕ) (p : Option ℕ) → ((k : ℕ) → p ≡ Some k → chain ls n k ≡ chain ls m k) → next ls n p ≡ next ls m p
chain_next ls n m None f = refl
chain_next ls n m (Some k) f = ap (λ v. k ∷ v) (f k refl)

first_step : (ls : List (Option ℕ)) (n : ℕ) (p : Option ℕ) → ((k : ℕ) → p ≡ Some k → chain ls n k ≡ chain ls k k) → next ls n p ≡ up_from ls p
first_step ls n None f = refl
first_step ls n (Some k) f = ap (λ v. k ∷ v) (f k refl)

-- more steps than there are entries before change nothing
pub chain_steps : (ls : List (Option ℕ)) (n m j : ℕ) → j ≤ n → j ≤ m → chain ls n j ≡ chain ls m j
chain_steps ls zero zero j a b = refl
chain_steps ls zero (suc m) j a b = let e : j ≡ 0 = omega arith in rw e refl
chain_steps ls (suc n) zero j a b = let e : j ≡ 0 = omega arith in rw e refl
chain_steps ls (suc n) (suc m) j a b = chain_next ls n m (parent ls j) (λ k e. let l = parent_earlier ls j k e in chain_steps ls n m k (omega arith) (omega arith))

pub ancestors_step : (ls : List (Option ℕ)) (j : ℕ) → ancestors ls j ≡ up_from ls (parent ls j)
ancestors_step ls zero = refl
ancestors_step ls (suc j) = first_step ls j (parent ls (suc j)) (λ k e. let l = parent_earlier ls (suc j) k e in chain_steps ls j k k (omega arith) (omega arith))
