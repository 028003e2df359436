-- Lists that are passed through one by one.
use Rattle.std.proofs.Common.{◌≡◌, ℕ, zero, suc, ◌+◌, ◌++◌, Bool, true, false, List, [], ◌∷◌, take, drop, fold, slice_get, add-one, Some, refl, ap, sym, ◌∙◌}
use Rattle.std.specs.List.{list_any}
use Rattle.std.proofs.lemmas.List.Sums.{fold-append}

pub cut_at : {X : Type 0} (xs : List X) (i : ℕ) (x : X) → slice_get xs i ≡ Some x → drop i xs ≡ x ∷ drop (i + 1) xs
cut_at [] i x h = absurd cc
cut_at (y ∷ ys) zero x h = let same : y ≡ x = cc in ap (λ z. z ∷ ys) same
cut_at (y ∷ ys) (suc i) x h = rw add-one (rw add-one at (cut_at ys i x h))

pub take_one_more : {X : Type 0} (xs : List X) (i : ℕ) (x : X) → slice_get xs i ≡ Some x → take (i + 1) xs ≡ take i xs ++ x ∷ []
take_one_more [] i x h = absurd cc
take_one_more (y ∷ ys) zero x h = let same : y ≡ x = cc in ap (λ z. z ∷ []) same
take_one_more (y ∷ ys) (suc i) x h = rw add-one (ap (λ zs. y ∷ zs) (rw add-one at (take_one_more ys i x h)))

-- an element settles the answer
pub any_here : {X : Type 0} (p : X → Bool) (xs : List X) (i : ℕ) (x : X) → slice_get xs i ≡ Some x → p x ≡ true → list_any p (drop i xs) ≡ true
any_here p xs i x h holds = ap (list_any p) (cut_at xs i x h) ∙ (rw holds refl)

-- or leaves it to those after it
pub any_behind : {X : Type 0} (p : X → Bool) (xs : List X) (i : ℕ) (x : X) → slice_get xs i ≡ Some x → p x ≡ false → list_any p (drop (i + 1) xs) ≡ list_any p (drop i xs)
any_behind p xs i x h fails = sym (ap (list_any p) (cut_at xs i x h) ∙ (rw fails refl))

-- a fold over one more
pub fold_one_more : {X Y : Type 0} (f : Y → X → Y) (z : Y) (xs : List X) (i : ℕ) (x : X) → slice_get xs i ≡ Some x → fold f z (take (i + 1) xs) ≡ f (fold f z (take i xs)) x
fold_one_more f z xs i x h = ap (fold f z) (take_one_more xs i x h) ∙ fold-append f z (take i xs) (x ∷ [])
