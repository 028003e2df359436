-- What is cloned is equal.
use Rattle.std.proofs.Common.{◌≡◌, ◌∙◌, ℕ, List, [], ◌∷◌, refl, sym, ap}
use Rattle.std.specs.List.{AllZip, list_any}
use Rattle.std.specs.Map.{lookup}
use Rattle.std.specs.Ordering.{nat_cmp}
use Rattle.std.specs.Prelude.{Option}
use Rattle.std.specs.BTreeMap.{BTreeMap, is_at}
use Rattle.std.specs.BTreeSet.{BTreeSet}
use Rattle.org_index.specs.declared.reach.Reach.{Reach}
use Rattle.org_index.specs.DaySet.{Fits, key_cmp, stands_by}

pub same_keys : (xs ys : List (ℕ × ℕ)) → AllZip (λ (x y : ℕ × ℕ). (y.0 ≡ x.0) × (y.1 ≡ x.1)) xs ys → ys ≡ xs
same_keys [] [] h = refl
same_keys [] (y ∷ ys) h = absurd h
same_keys (x ∷ xs) [] h = absurd h
same_keys (x ∷ xs) (y ∷ ys) h = λ i. (h.0.0 i, h.0.1 i) ∷ same_keys xs ys h.1 i

pub same_reaches : (xs ys : List (ℕ × Reach)) → AllZip (λ (x y : ℕ × Reach). (y.0 ≡ x.0) × (y.1 ≡ x.1)) xs ys → ys ≡ xs
same_reaches [] [] h = refl
same_reaches [] (y ∷ ys) h = absurd h
same_reaches (x ∷ xs) [] h = absurd h
same_reaches (x ∷ xs) (y ∷ ys) h = λ i. (h.0.0 i, h.0.1 i) ∷ same_reaches xs ys h.1 i

pub fits_again : (key : Reach → Option ℕ) (reaches reaches₂ : BTreeMap ℕ Reach) (day_set day_set₂ : BTreeSet (ℕ × ℕ)) → reaches₂.entries ≡ reaches.entries → day_set₂.keys ≡ day_set.keys → Fits key reaches day_set → Fits key reaches₂ day_set₂
fits_again key reaches reaches₂ day_set day_set₂ same_map same_set fits d i =
    ap (λ ks. list_any (is_at (key_cmp (d, i))) ks) same_set ∙ fits d i ∙ sym (ap (λ es. stands_by key (lookup (is_at (nat_cmp i)) es) d) same_map)
