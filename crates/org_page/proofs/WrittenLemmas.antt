-- Texts that are written one after the other.
use Rattle.std.proofs.Common.{◌≡◌, ℕ, ◌+◌, ◌<◌, List, [], ◌∷◌, ◌++◌, sym, ap, ◌∙◌, encode_utf8_all, length, drop, get_or}
use Rattle.std.specs.Char.{encode_utf8}
use Rattle.std.proofs.lemmas.Str.{encodes-append}
use Rattle.std.proofs.lemmas.List.{append_assoc, drop_more}

-- what is left of a list begins with the item there
pub drop_item : {A : Type 0} (xs : List A) (i : ℕ) (x : A) → i < length xs → x ≡ get_or xs i x → drop i xs ≡ x ∷ drop (i + 1) xs
drop_item xs i x h e = drop_more xs i x h ∙ ap (λ y. y ∷ drop (i + 1) xs) (sym e)

pub more_told : (out new piece rest target : List ℕ) → new ≡ out ++ encode_utf8_all piece → out ++ encode_utf8_all (piece ++ rest) ≡ target → new ++ encode_utf8_all rest ≡ target
more_told out new piece rest target added told =
    ap (λ t. t ++ encode_utf8_all rest) added ∙ append_assoc out (encode_utf8_all piece) (encode_utf8_all rest)
    ∙ ap (λ t. out ++ t) (sym (encodes-append piece rest)) ∙ told

-- two texts written are one
both : (old mid new a b : List ℕ) → mid ≡ old ++ encode_utf8_all a → new ≡ mid ++ encode_utf8_all b → new ≡ old ++ encode_utf8_all (a ++ b)
both old mid new a b first second =
    second ∙ ap (λ t. t ++ encode_utf8_all b) first ∙ append_assoc old (encode_utf8_all a) (encode_utf8_all b) ∙ ap (λ t. old ++ t) (sym (encodes-append a b))

pub four_told : (old o1 o2 o3 o4 a b c d : List ℕ) → o1 ≡ old ++ encode_utf8_all a → o2 ≡ o1 ++ encode_utf8_all b → o3 ≡ o2 ++ encode_utf8_all c → o4 ≡ o3 ++ encode_utf8_all d → o4 ≡ old ++ encode_utf8_all (a ++ (b ++ (c ++ d)))
four_told old o1 o2 o3 o4 a b c d e1 e2 e3 e4 =
    both old o1 o4 a (b ++ (c ++ d)) e1 (both o1 o2 o4 b (c ++ d) e2 (both o2 o3 o4 c d e3 e4))

pub five_told : (old o1 o2 o3 o4 o5 a b c d e : List ℕ) → o1 ≡ old ++ encode_utf8_all a → o2 ≡ o1 ++ encode_utf8_all b → o3 ≡ o2 ++ encode_utf8_all c → o4 ≡ o3 ++ encode_utf8_all d → o5 ≡ o4 ++ encode_utf8_all e → o5 ≡ old ++ encode_utf8_all (a ++ (b ++ (c ++ (d ++ e))))
five_told old o1 o2 o3 o4 o5 a b c d e e1 e2 e3 e4 e5 =
    both old o1 o5 a (b ++ (c ++ (d ++ e))) e1 (four_told o1 o2 o3 o4 o5 b c d e e2 e3 e4 e5)
