-- What one more day adds.
use Rattle.std.proofs.Common.{◌≡◌, ◌∙◌, ℕ, ◌+◌, List, [], ◌∷◌, ◌++◌, ap₂, map, sym, arith}
use Rattle.std.proofs.lemmas.List.{map-append}
use Rattle.std.proofs.lemmas.List.FromFn.{map-range_with_len_more}
use Rattle.std.specs.List.{range_with_len}

pub adds_one : {W X : Type 0} (f : W → X) (g : ℕ → X) (n : ℕ) (ws : List W) (w : W) → map f ws ≡ map g (range_with_len 0 n) → f w ≡ g n → map f (ws ++ w ∷ []) ≡ map g (range_with_len 0 (n + 1))
adds_one f g n ws w before one =
    map-append f ws (w ∷ []) ∙ ap₂ (λ a b. a ++ b ∷ []) before one ∙ sym (map-range_with_len_more g 0 n n (omega arith))
