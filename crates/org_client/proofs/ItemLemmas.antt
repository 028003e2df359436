-- Items with a byte between them, one more at a time.
use Rattle.std.proofs.Common.{◌≡◌, ◌∙◌, ◌+◌, ℕ, zero, suc, true, List, [], ◌∷◌, ◌++◌, length, map, take, ap, refl, sym, arith}
use Rattle.std.specs.Prelude.{Some, nat_lt, slice_get}
use Rattle.std.proofs.lemmas.Bool.Decides.{nat_tests}
use Rattle.std.proofs.lemmas.List.{append_assoc, append-nil, length-map, map-append}
use Rattle.org_inherit.proofs.ListLemmas.{take_one_more}
use Rattle.org_client.specs.Json.{items_behind, items_with, separator}

behind_more : (b : ℕ) (xs : List (List ℕ)) (x : List ℕ) → items_behind b (xs ++ x ∷ []) ≡ items_behind b xs ++ b ∷ x
behind_more b [] x = ap (λ z. b ∷ z) (append-nil x)
behind_more b (y ∷ ys) x = ap (λ z. b ∷ z) (ap (λ z. y ++ z) (behind_more b ys x) ∙ sym (append_assoc y (items_behind b ys) (b ∷ x)))

-- what stands before an item that isn't the first
pub later_parted : (n b : ℕ) → separator (suc n) b ≡ b ∷ []
later_parted n b = let later : nat_lt 0 (suc n) ≡ true = grind (arith, nat_tests) in rw later refl

-- one item more, behind a separator where it isn't the first
pub with_more : (b : ℕ) (xs : List (List ℕ)) (x : List ℕ) → items_with b (xs ++ x ∷ []) ≡ (items_with b xs ++ separator (length xs) b) ++ x
with_more b [] x = append-nil x
with_more b (y ∷ ys) x =
    ap (λ z. y ++ z) (behind_more b ys x)
    ∙ sym (append_assoc y (items_behind b ys) (b ∷ x))
    ∙ sym (append_assoc (y ++ items_behind b ys) (b ∷ []) x)
    ∙ ap (λ s. (y ++ items_behind b ys ++ s) ++ x) (sym (later_parted (length ys) b))

length_taken : {X : Type 0} (xs : List X) (i : ℕ) (x : X) → slice_get xs i ≡ Some x → length (take i xs) ≡ i
length_taken [] i x at = absurd cc
length_taken (y ∷ ys) zero x at = refl
length_taken (y ∷ ys) (suc i) x at = ap suc (length_taken ys i x at)

-- what a loop over a list has written, behind one item more
pub written_more : {X : Type 0} (f : X → List ℕ) (b : ℕ) (xs : List X) (i : ℕ) (x : X) → slice_get xs i ≡ Some x →
    items_with b (map f (take (i + 1) xs)) ≡ (items_with b (map f (take i xs)) ++ separator i b) ++ f x
written_more f b xs i x at =
    ap (λ ys. items_with b (map f ys)) (take_one_more xs i x at)
    ∙ ap (items_with b) (map-append f (take i xs) (x ∷ []))
    ∙ with_more b (map f (take i xs)) (f x)
    ∙ ap (λ n. (items_with b (map f (take i xs)) ++ separator n b) ++ f x) (length-map (take i xs) f ∙ length_taken xs i x at)

four_apart : (a b c d : List ℕ) → ((a ++ b) ++ c) ++ d ≡ a ++ ((b ++ c) ++ d)
four_apart a b c d = append_assoc (a ++ b) c d ∙ append_assoc a b (c ++ d) ∙ ap (λ z. a ++ z) (sym (append_assoc b c d))

-- the same behind what stood before
pub put_more : {X : Type 0} (f : X → List ℕ) (b : ℕ) (xs : List X) (i : ℕ) (x : X) (old before parted after : List ℕ) → slice_get xs i ≡ Some x →
    before ≡ old ++ items_with b (map f (take i xs)) → parted ≡ before ++ separator i b → after ≡ parted ++ f x →
    after ≡ old ++ items_with b (map f (take (i + 1) xs))
put_more f b xs i x old before parted after at was sep put =
    put
    ∙ ap (λ z. z ++ f x) (sep ∙ ap (λ z. z ++ separator i b) was)
    ∙ four_apart old (items_with b (map f (take i xs))) (separator i b) (f x)
    ∙ ap (λ z. old ++ z) (sym (written_more f b xs i x at))
