-- The logs of files that are left.
use Rattle.std.proofs.Common.{◌≡◌, ◌+◌, ℕ, zero, suc, List, [], ◌∷◌, ◌++◌, drop, ap, arith}
use Rattle.std.specs.Prelude.{Some, slice_get}
use Rattle.org_inherit.specs.Scope.{Scope}
use Rattle.org_client.specs.Files.{NamedText}
use Rattle.org_client.specs.LogRows.{files_log, rows_if_there}
use Rattle.org_trace.specs.declared.row.LogQuery.{LogQuery}

-- what is left at a place
pub drop_there : {X : Type 0} (xs : List X) (i : ℕ) (x : X) → slice_get xs i ≡ Some x → drop i xs ≡ x ∷ drop (i + 1) xs
drop_there [] i x at = absurd cc
drop_there (y ∷ ys) zero x at = let same : y ≡ x = cc in ap (λ z. z ∷ ys) same
drop_there (y ∷ ys) (suc i) x at = let next : suc i + 1 ≡ suc (i + 1) = omega arith in rw next (drop_there ys i x at)

pub files_more : (asked : LogQuery) (files : List NamedText) (scopes : List Scope) (i : ℕ) (scope : Scope) → slice_get scopes i ≡ Some scope →
    files_log asked files i (drop i scopes) ≡ rows_if_there asked i scope (slice_get files i) ++ files_log asked files (i + 1) (drop (i + 1) scopes)
files_more asked files scopes i scope at = ap (files_log asked files i) (drop_there scopes i scope at)
