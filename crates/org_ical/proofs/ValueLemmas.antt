-- Values are read back.
use Rattle.std.proofs.Common.{◌≡◌, ◌∙◌, ℕ, Bool, true, false, cond, List, [], ◌∷◌, ◌++◌, refl, sym, ap, arith, append-nil, map}
use Rattle.std.specs.Prelude.{◌==◌}
use Rattle.std.proofs.lemmas.Bool.Decides.{nat_tests}
use Rattle.std.proofs.lemmas.List.{append_assoc}
use Rattle.org_ical.specs.Texts.{escaped, escaped_byte, is_special, meant, plain, put, read_behind, value_text, values_behind}
use Rattle.org_ical.specs.Laws.{ListsReadBack, ValuesReadBack}

-- a text in front of the first of some texts
abbrev pub put_all : List ℕ → List (List ℕ) → List (List ℕ)
put_all [] texts = texts
put_all (byte ∷ bytes) texts = put byte (put_all bytes texts)

pub put_all-first : (bytes : List ℕ) (texts : List (List ℕ)) → put_all bytes ([] ∷ texts) ≡ bytes ∷ texts
put_all-first [] texts = refl
put_all-first (b ∷ bs) texts = ap (put b) (put_all-first bs texts)

special_means_itself : (b : ℕ) → is_special b ≡ true → meant b ≡ b
special_means_itself b e = grind (arith, nat_tests, e)

not_special : (b : ℕ) → is_special b ≡ false → (b == 92) ≡ false
not_special b e = grind (arith, nat_tests, e)

no_comma : (b : ℕ) → is_special b ≡ false → (b == 44) ≡ false
no_comma b e = grind (arith, nat_tests, e)

byte_back : (b : ℕ) (rest : List ℕ) → read_behind false (escaped_byte b ++ rest) ≡ put b (read_behind false rest)
byte_back b rest = by (b == 10) refl
  where
    other : (t : Bool) → is_special b ≡ t → read_behind false (cond t (92 ∷ b ∷ []) (b ∷ []) ++ rest) ≡ put b (read_behind false rest)
    other true e = ap (λ m. put m (read_behind false rest)) (special_means_itself b e)
    other false e =
        ap (λ t. cond t (read_behind true rest) (cond (b == 44) ([] ∷ read_behind false rest) (put b (read_behind false rest)))) (not_special b e)
        ∙ ap (λ t. cond t ([] ∷ read_behind false rest) (put b (read_behind false rest))) (no_comma b e)

    by : (t : Bool) → (b == 10) ≡ t → read_behind false (cond t (92 ∷ 110 ∷ []) (cond (is_special b) (92 ∷ b ∷ []) (b ∷ [])) ++ rest) ≡ put b (read_behind false rest)
    by true e = let same : 10 ≡ b = grind (arith, nat_tests, e) in ap (λ m. put m (read_behind false rest)) same
    by false e = other (is_special b) refl

all_back : (bytes rest : List ℕ) → read_behind false (escaped bytes ++ rest) ≡ put_all bytes (read_behind false rest)
all_back [] rest = refl
all_back (b ∷ bs) rest =
    ap (read_behind false) (append_assoc (escaped_byte b) (escaped bs) rest)
    ∙ byte_back b (escaped bs ++ rest)
    ∙ ap (put b) (all_back bs rest)

pub values_read_back : ValuesReadBack
values_read_back text =
    ap (read_behind false) (sym (append-nil (value_text text))) ∙ all_back (plain text) [] ∙ put_all-first (plain text) []

others_back : (text : List ℕ) (texts : List (List ℕ)) → read_behind false (value_text text ++ values_behind texts) ≡ map plain (text ∷ texts)
others_back text [] = all_back (plain text) [] ∙ put_all-first (plain text) []
others_back text (t ∷ ts) =
    all_back (plain text) (44 ∷ value_text t ++ values_behind ts)
    ∙ put_all-first (plain text) (read_behind false (value_text t ++ values_behind ts))
    ∙ ap (λ r. plain text ∷ r) (others_back t ts)

pub lists_read_back : ListsReadBack
lists_read_back text texts = others_back text texts
