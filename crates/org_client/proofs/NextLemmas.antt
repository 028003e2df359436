-- One row and one day more of what comes next.
use Rattle.std.proofs.Common.{◌≡◌, ◌∙◌, ℕ, zero, suc, ◌+◌, ◌<◌, List, [], ◌∷◌, ◌++◌, get_or, length, take, ap, sym, arith}
use Rattle.std.specs.Prelude.{fold}
use Rattle.std.specs.List.{range_with_len}
use Rattle.std.proofs.lemmas.List.Sums.{fold_more, fold-append}

pub fold_next : {X Y : Type 0} (f : Y → X → Y) (a new : Y) (xs : List X) (i : ℕ) (x : X) (so_far : Y) → i < length xs → x ≡ get_or xs i x → so_far ≡ fold f a (take i xs) → new ≡ f so_far x → new ≡ fold f a (take (i + 1) xs)
fold_next f a new xs i x so_far lt is so one = one ∙ (λ k. f (so k) (is k)) ∙ sym (fold_more f a xs i x lt)

pub range_more : (a n : ℕ) → range_with_len a (n + 1) ≡ range_with_len a n ++ (a + n) ∷ []
range_more a zero = let e : a + 0 ≡ a = omega arith in ap (λ k. k ∷ []) (sym e)
range_more a (suc n) =
    let e : a + 1 + n ≡ a + suc n = omega arith in
    let s : suc n + 1 ≡ suc (n + 1) = omega arith in
    ap (range_with_len a) s ∙ ap (λ ds. a ∷ ds) (range_more (a + 1) n ∙ ap (λ k. range_with_len (a + 1) n ++ k ∷ []) e)

pub days_next : {Y : Type 0} (f : Y → ℕ → Y) (a new so_far : Y) (first n day : ℕ) → day ≡ first + n → so_far ≡ fold f a (range_with_len first n) → new ≡ f so_far day → new ≡ fold f a (range_with_len first (n + 1))
days_next f a new so_far first n day is so one =
    one ∙ (λ k. f (so k) (is k)) ∙ sym (ap (fold f a) (range_more first n) ∙ fold-append f a (range_with_len first n) ((first + n) ∷ []))
