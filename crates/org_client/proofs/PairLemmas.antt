-- Pairs of an object, one more at a time.
use Rattle.std.proofs.Common.{◌≡◌, ◌∙◌, ◌+◌, ℕ, List, [], ◌∷◌, ◌++◌, length, map, take, ap, refl, sym, append_assoc}
use Rattle.std.specs.Prelude.{Option, None, Some, slice_get}
use Rattle.std.proofs.lemmas.List.{append-nil, map-append}
use Rattle.org_inherit.proofs.ListLemmas.{take_one_more}
use Rattle.org_inherit.specs.Scope.{Scope}
use Rattle.org_inherit.specs.Special.{value_of}
use Rattle.org_client.specs.Json.{items_with, pair_text, separator}
use Rattle.org_client.specs.Objects.{behind_pairs, pair_if, pairs_of, pairs_text, with_pair}
use Rattle.org_client.proofs.ItemLemmas.{later_parted, with_more}

pairs_more : (scope : Scope) (i : ℕ) (names : List (List ℕ)) (name : List ℕ) →
    pairs_of scope i (names ++ name ∷ []) ≡ pairs_of scope i names ++ pair_if name (value_of scope i name)
pairs_more scope i [] name = append-nil (pair_if name (value_of scope i name))
pairs_more scope i (x ∷ xs) name =
    ap (λ ps. pair_if x (value_of scope i x) ++ ps) (pairs_more scope i xs name)
    ∙ sym (append_assoc (pair_if x (value_of scope i x)) (pairs_of scope i xs) (pair_if name (value_of scope i name)))

behind : (ps : List (List ℕ × List ℕ)) → pairs_text ps ++ separator (length (map pair_text ps)) 44 ≡ behind_pairs (pairs_text ps)
behind [] = refl
behind (p ∷ ps) = ap (λ s. pairs_text (p ∷ ps) ++ s) (later_parted (length (map pair_text ps)) 44)

text_more : (ps : List (List ℕ × List ℕ)) (name : List ℕ) (value : Option (List ℕ)) → pairs_text (ps ++ pair_if name value) ≡ with_pair (pairs_text ps) name value
text_more ps name None = ap pairs_text (append-nil ps)
text_more ps name (Some value) =
    ap (items_with 44) (map-append pair_text ps ((name, value) ∷ []))
    ∙ with_more 44 (map pair_text ps) (pair_text (name, value))
    ∙ ap (λ front. front ++ pair_text (name, value)) (behind ps)

-- what a loop over names has written, with one name more
pub pairs_written : (scope : Scope) (i : ℕ) (names : List (List ℕ)) (place : ℕ) (name : List ℕ) → slice_get names place ≡ Some name →
    pairs_text (pairs_of scope i (take (place + 1) names)) ≡ with_pair (pairs_text (pairs_of scope i (take place names))) name (value_of scope i name)
pairs_written scope i names place name at =
    ap (λ ns. pairs_text (pairs_of scope i ns)) (take_one_more names place name at)
    ∙ ap pairs_text (pairs_more scope i (take place names) name)
    ∙ text_more (pairs_of scope i (take place names)) name (value_of scope i name)
