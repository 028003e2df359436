-- One file more.
use Rattle.std.proofs.Common.{◌≡◌, ◌∙◌, ℕ, zero, suc, ◌+◌, ◌<◌, ◌≤◌, List, [], ◌∷◌, ◌++◌, map, length, take, sym, ap, arith, subst}
use Rattle.std.specs.Prelude.{Some, slice_get}
use Rattle.std.specs.List.{All}
use Rattle.std.proofs.lemmas.List.{map-append, take_all}
use Rattle.std.proofs.lemmas.Option.{get_or_from_slice_get}
use Rattle.org_inherit.specs.Scope.{Scope}
use Rattle.org_sum.specs.Texts.{AreOfText}

-- each file is one text's
pub one_text : (scopes : List Scope) (i : ℕ) (scope : Scope) → All (λ (s : Scope). AreOfText s.entries) scopes → i < length scopes → slice_get scopes i ≡ Some scope → AreOfText scope.entries
one_text scopes i scope all lt there =
    subst (λ (s : Scope). AreOfText s.entries) (get_or_from_slice_get scopes i scope scope there) (all i scope lt)

taken : {X : Type 0} (xs : List X) (i : ℕ) (x : X) → slice_get xs i ≡ Some x → take (i + 1) xs ≡ take i xs ++ x ∷ []
taken [] i x at = absurd cc
taken (y ∷ ys) zero x at = let same : y ≡ x = cc in ap (λ z. z ∷ []) same
taken (y ∷ ys) (suc i) x at = let next : suc i + 1 ≡ suc (i + 1) = omega arith in rw next (ap (λ zs. y ∷ zs) (taken ys i x at))

-- what is made of one more stands after what was made of those before
pub mapped_more : {X Y : Type 0} (f : X → Y) (xs : List X) (i : ℕ) (x : X) (y : Y) (old new : List Y) → slice_get xs i ≡ Some x → y ≡ f x → old ≡ map f (take i xs) → new ≡ old ++ y ∷ [] → new ≡ map f (take (i + 1) xs)
mapped_more f xs i x y old new at is so_far pushed =
    pushed ∙ (λ j. so_far j ++ is j ∷ []) ∙ sym (ap (map f) (taken xs i x at) ∙ map-append f (take i xs) (x ∷ []))

-- what is made of all
pub mapped_all : {X Y : Type 0} (f : X → Y) (xs : List X) (i : ℕ) → length xs ≤ i → map f (take i xs) ≡ map f xs
mapped_all f xs i le = ap (map f) (take_all i xs le)
