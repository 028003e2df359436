-- What is written in a string of JSON is read as the text.
use Rattle.std.proofs.Common.{◌≡◌, ◌∙◌, ℕ, ◌+◌, ◌-◌, ◌*◌, ◌/◌, ◌%◌, ◌<◌, ◌≤◌, suc, Bool, true, false, cond, ◌&&◌, ◌||◌, List, [], ◌∷◌, ◌++◌, length, get_or, ap, subst, arith, refl, sym, append_assoc}
use Rattle.std.specs.Prelude.{◌==◌, nat_lt, nat_le}
use Rattle.std.specs.List.{All}
use Rattle.std.proofs.lemmas.Bool.Decides.{nat_tests}
use Rattle.org_visible.specs.Clean.{is_empty}
use Rattle.org_visible.specs.JsonReading.{character, digit_value, half, is_half, joined, outside, six_bits, text_from}
use Rattle.org_visible.specs.Laws.{StringsReadBack, front_behind}
use Rattle.org_visible.specs.Unseen.{front_of, block_of, ends, front_bytes, is_control, is_first, next, place, waits}
use Rattle.org_visible.specs.Visible.{control, hex, other, single, visible, visible_behind, written}
use Rattle.org_visible.specs.declared.front.Block.TheVariants.{Latin, Punctuation, Tags}
use Rattle.org_visible.specs.declared.front.Front.{Front}
use Rattle.org_visible.specs.declared.front.Front.TheVariants.{Empty, C2, E2, E280, E281, F3, F3A0, F3A080, F3A081}
use Rattle.org_visible.specs.declared.visible.Escape.TheVariants.{Json}
use Rattle.org_visible.proofs.CleanLemmas.{anew, begins_none, ended, not_empty}
use Rattle.org_visible.proofs.StandLemmas.{front_of_bytes, longer}

hex_back : (d : ℕ) → d < 16 → digit_value (hex d) ≡ d
hex_back d lt = by (nat_lt d 10) refl
  where
    by : (small : Bool) → nat_lt d 10 ≡ small → digit_value (cond small (48 + d) (97 + (d - 10))) ≡ d
    by true e =
        let low : nat_lt (48 + d) 58 ≡ true = grind (arith, nat_tests, e) in
        rw low (omega arith)
    by false e =
        let high : nat_lt (97 + (d - 10)) 58 ≡ false = grind (arith, nat_tests, e) in
        let ten : 10 ≤ d = grind (arith, nat_tests, e) in
        rw high (omega (arith, ten))

-- two digits behind others
two_back : (front n : ℕ) → n < 256 → (front + digit_value (hex (n / 16))) * 16 + digit_value (hex (n % 16)) ≡ front * 16 + n
two_back front n lt = rw (hex_back (n / 16) (omega (arith, lt))) (rw (hex_back (n % 16) (omega arith)) (omega arith))

-- a number that is no half of another is read as its character
whole : (number n : ℕ) (rest : List ℕ) → number ≡ n → n < 55296 →
    cond (is_half number) (text_from (half number) rest) (character number ++ text_from outside rest) ≡ character n ++ text_from outside rest
whole number n rest same small =
    let isnt : is_half n ≡ false = grind (arith, nat_tests, small) in
    ap (λ m. cond (is_half m) (text_from (half m) rest) (character m ++ text_from outside rest)) same ∙ (λ i. cond (isnt i) (text_from (half n) rest) (character n ++ text_from outside rest))

latin_back : (n : ℕ) (rest : List ℕ) → n < 256 → text_from outside (control Json Latin n ++ rest) ≡ character n ++ text_from outside rest
latin_back n rest lt =
    let same : (0 + digit_value (hex (n / 16))) * 16 + digit_value (hex (n % 16)) ≡ n = two_back 0 n lt ∙ omega arith in
    whole ((0 + digit_value (hex (n / 16))) * 16 + digit_value (hex (n % 16))) n rest same (omega (arith, lt))

punctuation_back : (n : ℕ) (rest : List ℕ) → n < 256 → text_from outside (control Json Punctuation n ++ rest) ≡ character (8192 + n) ++ text_from outside rest
punctuation_back n rest lt =
    let same : (512 + digit_value (hex (n / 16))) * 16 + digit_value (hex (n % 16)) ≡ 8192 + n = two_back 512 n lt ∙ omega arith in
    whole ((512 + digit_value (hex (n / 16))) * 16 + digit_value (hex (n % 16))) (8192 + n) rest same (omega (arith, lt))

tags_back : (n : ℕ) (rest : List ℕ) → n < 256 → text_from outside (control Json Tags n ++ rest) ≡ character (917504 + n) ++ text_from outside rest
tags_back n rest lt =
    let second : joined 56128 ((3520 + digit_value (hex (n / 16))) * 16 + digit_value (hex (n % 16))) ≡ 917504 + n = ap (joined 56128) (two_back 3520 n lt) ∙ omega arith in
    ap (λ m. character m ++ text_from outside rest) second

-- characters by how many bytes they have
two : (n : ℕ) → 128 ≤ n → n < 2048 → character n ≡ (192 + n / 64) ∷ six_bits n ∷ []
two n low high =
    let a : nat_lt n 128 ≡ false = grind (arith, nat_tests, low) in
    let b : nat_lt n 2048 ≡ true = grind (arith, nat_tests, high) in
    rw a (rw b refl)

three : (n : ℕ) → 2048 ≤ n → n < 65536 → character n ≡ (224 + n / 4096) ∷ six_bits (n / 64) ∷ six_bits n ∷ []
three n low high =
    let a : nat_lt n 128 ≡ false = grind (arith, nat_tests, low) in
    let b : nat_lt n 2048 ≡ false = grind (arith, nat_tests, low) in
    let c : nat_lt n 65536 ≡ true = grind (arith, nat_tests, high) in
    rw a (rw b (rw c refl))

four : (n : ℕ) → 65536 ≤ n → character n ≡ (240 + n / 262144) ∷ six_bits (n / 4096) ∷ six_bits (n / 64) ∷ six_bits n ∷ []
four n low =
    let a : nat_lt n 128 ≡ false = grind (arith, nat_tests, low) in
    let b : nat_lt n 2048 ≡ false = grind (arith, nat_tests, low) in
    let c : nat_lt n 65536 ≡ false = grind (arith, nat_tests, low) in
    rw a (rw b (rw c refl))

-- the character of a front and its last byte
last_back : (front : Front) (b : ℕ) (rest : List ℕ) → ends front b ≡ true →
    text_from outside (control Json (block_of front) (place front b) ++ rest) ≡ front_bytes front ++ b ∷ text_from outside rest
last_back Empty b rest e = absurd cc
last_back C2 b rest e =
    let low : 128 ≤ b = grind (arith, nat_tests, e) in
    let high : b < 160 = grind (arith, nat_tests, e) in
    let first : 192 + b / 64 ≡ 194 = omega (arith, low, high) in
    let second : six_bits b ≡ b = omega (arith, low, high) in
    latin_back b rest (omega (arith, high)) ∙ ap (λ c. c ++ text_from outside rest) (two b low (omega (arith, high)) ∙ (λ i. first i ∷ second i ∷ []))
last_back E2 b rest e = absurd cc
last_back E280 b rest e =
    let low : 170 ≤ b = grind (arith, nat_tests, e) in
    let high : b < 175 = grind (arith, nat_tests, e) in
    let first : 224 + (8192 + (b - 128)) / 4096 ≡ 226 = omega (arith, low, high) in
    let second : six_bits ((8192 + (b - 128)) / 64) ≡ 128 = omega (arith, low, high) in
    let third : six_bits (8192 + (b - 128)) ≡ b = omega (arith, low, high) in
    punctuation_back (b - 128) rest (omega (arith, high)) ∙ ap (λ c. c ++ text_from outside rest) (three (8192 + (b - 128)) (omega arith) (omega (arith, high)) ∙ (λ i. first i ∷ second i ∷ third i ∷ []))
last_back E281 b rest e =
    let low : 166 ≤ b = grind (arith, nat_tests, e) in
    let high : b < 170 = grind (arith, nat_tests, e) in
    let first : 224 + (8192 + (b - 64)) / 4096 ≡ 226 = omega (arith, low, high) in
    let second : six_bits ((8192 + (b - 64)) / 64) ≡ 129 = omega (arith, low, high) in
    let third : six_bits (8192 + (b - 64)) ≡ b = omega (arith, low, high) in
    punctuation_back (b - 64) rest (omega (arith, high)) ∙ ap (λ c. c ++ text_from outside rest) (three (8192 + (b - 64)) (omega arith) (omega (arith, high)) ∙ (λ i. first i ∷ second i ∷ third i ∷ []))
last_back F3 b rest e = absurd cc
last_back F3A0 b rest e = absurd cc
last_back F3A080 b rest e =
    let low : 128 ≤ b = grind (arith, nat_tests, e) in
    let high : b < 192 = grind (arith, nat_tests, e) in
    let first : 240 + (917504 + (b - 128)) / 262144 ≡ 243 = omega (arith, low, high) in
    let second : six_bits ((917504 + (b - 128)) / 4096) ≡ 160 = omega (arith, low, high) in
    let third : six_bits ((917504 + (b - 128)) / 64) ≡ 128 = omega (arith, low, high) in
    let fourth : six_bits (917504 + (b - 128)) ≡ b = omega (arith, low, high) in
    tags_back (b - 128) rest (omega (arith, high)) ∙ ap (λ c. c ++ text_from outside rest) (four (917504 + (b - 128)) (omega arith) ∙ (λ i. first i ∷ second i ∷ third i ∷ fourth i ∷ []))
last_back F3A081 b rest e =
    let low : 128 ≤ b = grind (arith, nat_tests, e) in
    let high : b < 192 = grind (arith, nat_tests, e) in
    let first : 240 + (917504 + (b - 64)) / 262144 ≡ 243 = omega (arith, low, high) in
    let second : six_bits ((917504 + (b - 64)) / 4096) ≡ 160 = omega (arith, low, high) in
    let third : six_bits ((917504 + (b - 64)) / 64) ≡ 129 = omega (arith, low, high) in
    let fourth : six_bits (917504 + (b - 64)) ≡ b = omega (arith, low, high) in
    tags_back (b - 64) rest (omega (arith, high)) ∙ ap (λ c. c ++ text_from outside rest) (four (917504 + (b - 64)) (omega arith) ∙ (λ i. first i ∷ second i ∷ third i ∷ fourth i ∷ []))

-- a byte that stands by itself is read as it
plain_back : (b : ℕ) (rest : List ℕ) → (b == 92) ≡ false → text_from outside (b ∷ rest) ≡ b ∷ text_from outside rest
plain_back b rest not_slash = rw not_slash refl

-- a byte that is no control character, and isn't the first of one
other_back : (b : ℕ) (rest : List ℕ) → text_from outside (other Json b ++ rest) ≡ b ∷ text_from outside rest
other_back b rest = by (b == 34) (b == 92) refl refl
  where
    by : (quote slash : Bool) → (b == 34) ≡ quote → (b == 92) ≡ slash → text_from outside (cond (quote || slash) (92 ∷ b ∷ []) (b ∷ []) ++ rest) ≡ b ∷ text_from outside rest
    by true slash q e = let is : b ≡ 34 = grind (arith, nat_tests, q) in rw is refl
    by false true q e = let is : b ≡ 92 = grind (arith, nat_tests, e) in rw is refl
    by false false q e = plain_back b rest e

-- a control character of ASCII is itself
ascii_back : (b : ℕ) → is_control b ≡ true → character b ≡ b ∷ []
ascii_back b is = let low : nat_lt b 128 ≡ true = grind (arith, nat_tests, is) in rw low refl

-- a byte that begins anew
single_back : (b : ℕ) (bs rest : List ℕ) → b < 256 → text_from outside rest ≡ front_bytes (front_of b) ++ bs → text_from outside (single Json b ++ rest) ≡ b ∷ bs
single_back b bs rest lt later = by (is_first b) refl
  where
    own : (t : Bool) → is_control b ≡ t → text_from outside (cond t (control Json Latin b) (other Json b) ++ rest) ≡ b ∷ text_from outside rest
    own true e = latin_back b rest lt ∙ ap (λ cs. cs ++ text_from outside rest) (ascii_back b e)
    own false e = other_back b rest

    by : (t : Bool) → is_first b ≡ t → text_from outside (cond t [] (cond (is_control b) (control Json Latin b) (other Json b)) ++ rest) ≡ b ∷ bs
    by true e = later ∙ ap (λ s. s ++ bs) (front_of_bytes b e)
    by false e = own (is_control b) refl ∙ ap (λ s. b ∷ s) (later ∙ ap (λ f. front_bytes f ++ bs) (begins_none b e))

-- what came of a character is read as it
front_back : (front : Front) (rest : List ℕ) → text_from outside (front_bytes front ++ rest) ≡ front_bytes front ++ text_from outside rest
front_back Empty rest = refl
front_back C2 rest = refl
front_back E2 rest = refl
front_back E280 rest = refl
front_back E281 rest = refl
front_back F3 rest = refl
front_back F3A0 rest = refl
front_back F3A080 rest = refl
front_back F3A081 rest = refl

-- one byte more, where the rest is read as it should be
step : (front : Front) (b : ℕ) (bs rest : List ℕ) → b < 256 → text_from outside rest ≡ front_bytes (next front b) ++ bs →
    text_from outside (written Json front b ++ rest) ≡ front_bytes front ++ b ∷ bs
step front b bs rest lt later = by (ends front b) refl
  where
    more : (t : Bool) → waits front b ≡ t → text_from outside (cond t [] (front_bytes front ++ single Json b) ++ rest) ≡ front_bytes front ++ b ∷ bs
    more true e = later ∙ ap (λ s. s ++ bs) (longer front b e) ∙ append_assoc (front_bytes front) (b ∷ []) bs
    more false e =
        ap (text_from outside) (append_assoc (front_bytes front) (single Json b) rest) ∙ front_back front (single Json b ++ rest)
        ∙ ap (λ s. front_bytes front ++ s) (single_back b bs rest lt (later ∙ ap (λ f. front_bytes f ++ bs) (anew front b e)))

    by : (t : Bool) → ends front b ≡ t →
        text_from outside (cond t (control Json (block_of front) (place front b)) (cond (waits front b) [] (front_bytes front ++ single Json b)) ++ rest) ≡ front_bytes front ++ b ∷ bs
    by true e = last_back front b rest e ∙ ap (λ s. front_bytes front ++ b ∷ s) (later ∙ ap (λ f. front_bytes f ++ bs) (ended front b e).1)
    by false e = more (waits front b) refl

behind : (front : Front) (bytes : List ℕ) → All (λ byte. byte < 256) bytes → is_empty (front_behind front bytes) ≡ true → text_from outside (visible_behind Json front bytes) ≡ front_bytes front ++ bytes
behind front [] small ends = subst (λ f. text_from outside (visible_behind Json f []) ≡ front_bytes f ++ []) (sym (not_empty front ends)) refl
behind front (b ∷ bs) small ends =
    step front b bs (visible_behind Json (next front b) bs) (small 0 0 (omega arith)) (behind (next front b) bs (λ i d l. small (suc i) d (omega (arith, l))) ends)

pub strings_read_back : StringsReadBack
unfolding visible
strings_read_back text small ends = behind Empty text small ends
