-- What one more day, or week, adds.
use Rattle.std.proofs.Common.{◌≡◌, ◌∙◌, ℕ, ◌+◌, List, [], ◌∷◌, ◌++◌, ap₂, map, refl, sym}
use Rattle.std.proofs.lemmas.List.{map-append}
use Rattle.std.proofs.lemmas.List.FromFn.{map-range_with_len_more}
use Rattle.std.specs.List.{range_with_len}

pub adds_one : {W X : Type 0} (f : W → X) (g : ℕ → X) (first n : ℕ) (ws : List W) (w : W) → map f ws ≡ map g (range_with_len first n) → f w ≡ g (first + n) → map f (ws ++ w ∷ []) ≡ map g (range_with_len first (n + 1))
adds_one f g first n ws w before one =
    map-append f ws (w ∷ []) ∙ ap₂ (λ a b. a ++ b ∷ []) before one ∙ sym (map-range_with_len_more g first n (first + n) refl)
