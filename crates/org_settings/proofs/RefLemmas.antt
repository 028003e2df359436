-- What a slice of references points to.
use Rattle.std.proofs.Common.{◌≡◌, ℕ, ◌+◌, ◌-◌, ◌<◌, List, ◌∷◌, map, length, take, drop, get_or, sym, ap, ◌∙◌, arith}
use Rattle.std.proofs.lemmas.List.{drop_more, get_or-map, length-map, drop-map, take_rest, take-map}
use Rattle.std.specs.Borrow.{Bor}

-- what the references point to
abbrev pub texts : List (Bor (List ℕ)) → List (List ℕ)
texts xs = map (λ x. x.now) xs

pub texts_from : (xs : List (Bor (List ℕ))) (i : ℕ) (d : Bor (List ℕ)) → i < length xs → drop i (texts xs) ≡ (get_or xs i d).now ∷ drop (i + 1) (texts xs)
texts_from xs i d h =
    let inside : i < length (texts xs) = omega (arith, length-map xs (λ (x : Bor (List ℕ)). x.now)) in
    drop_more (texts xs) i d.now inside ∙ ap (λ t. t ∷ drop (i + 1) (texts xs)) (get_or-map (λ (x : Bor (List ℕ)). x.now) xs i d d.now h)

-- what `&lines[i..]` holds
pub texts_rest : (xs : List (Bor (List ℕ))) (i : ℕ) → texts (take (length xs - i) (drop i xs)) ≡ drop i (texts xs)
texts_rest xs i = ap texts (take_rest xs i) ∙ sym (drop-map (λ (x : Bor (List ℕ)). x.now) i xs)

-- what `&lines[..n]` holds
pub texts_front : (xs : List (Bor (List ℕ))) (n : ℕ) → texts (take n xs) ≡ take n (texts xs)
texts_front xs n = sym (take-map (λ (x : Bor (List ℕ)). x.now) n xs)
