-- Steps of cutting: a character that there is room for, and one that there is none for.
use Rattle.std.specs.Str.{IsAscii}
use Rattle.std.proofs.Common.{Bool, subst, replicate, zero, suc, ◌≡◌, ℕ, ◌+◌, ◌-◌, ◌<◌, ◌≤◌, true, false, cond, nat_le, ⊎_elim, List, [], ◌∷◌, ◌++◌, refl, sym, ap, ◌∙◌, encode_utf8_all, arith}
use Rattle.std.specs.Char.{encode_utf8}
use Rattle.std.specs.Str.{chars, IsUtf8}
use lib.Utf8.{scalars}
use Rattle.std.proofs.lemmas.Str.{chars_past_char, chars-nil, scalars-chars, IsUtf8-nil, IsUtf8-append, chars-append, chars-IsAscii}
use Rattle.std.proofs.lemmas.Bool.{and_parts, and_from, cases_lt}
use Rattle.std.proofs.lemmas.List.{append_assoc}
use Rattle.std.proofs.lemmas.Bool.Decides.{nat_tests}
use Rattle.org_look.specs.Cuts.{begun_text, cut_front, cut_text, front, if_fits, weight, FilledIsWide, SpreadIsWide, WholeStands}
use Rattle.org_look.specs.declared.sign.Signs.{Signs}
use Rattle.org_look.specs.declared.sign.Sign.TheVariants.{Cut}
use Rattle.unicode_width.specs.Width.{str_width}
use Rattle.unicode_width.proofs.Rules.{str_width-append_simple}
use Rattle.org_look.proofs.FenceLemmas.{spaces_simple, str_width-spaces}
use Rattle.org_look.proofs.SignLemmas.{signs_are_columns, IsUtf8-sign}
use Rattle.org_look.specs.Widths.{columns_of}

le_true : (m n : ℕ) → m ≤ n → nat_le m n ≡ true
le_true m n le = grind (arith, nat_tests)

le_false : (m n : ℕ) → n < m → nat_le m n ≡ false
le_false m n lt = grind (arith, nat_tests)

pub front_past : (room w : ℕ) (text rest : List ℕ) (c : ℕ) → w ≡ weight c → w ≤ room → IsUtf8 text → text ≡ encode_utf8 c ++ rest → encode_utf8_all (front room (chars text)) ≡ encode_utf8 c ++ encode_utf8_all (front (room - w) (chars rest))
front_past room w text rest c e fits utf8 parts =
    ap (λ cs. encode_utf8_all (front room cs)) (chars_past_char text rest c utf8 parts)
    ∙ ap (λ n. encode_utf8_all (cond (nat_le n room) (c ∷ front (room - n) (chars rest)) [])) (sym e)
    ∙ ap (λ b. encode_utf8_all (cond b (c ∷ front (room - w) (chars rest)) [])) (le_true w room fits)

pub front_stuck : (room w : ℕ) (text rest : List ℕ) (c : ℕ) → w ≡ weight c → room < w → IsUtf8 text → text ≡ encode_utf8 c ++ rest → encode_utf8_all (front room (chars text)) ≡ []
front_stuck room w text rest c e wide utf8 parts =
    ap (λ cs. encode_utf8_all (front room cs)) (chars_past_char text rest c utf8 parts)
    ∙ ap (λ n. encode_utf8_all (cond (nat_le n room) (c ∷ front (room - n) (chars rest)) [])) (sym e)
    ∙ ap (λ b. encode_utf8_all (cond b (c ∷ front (room - w) (chars rest)) [])) (le_false w room wide)

pub front_told : (room w : ℕ) (text rest : List ℕ) (c : ℕ) (out new target : List ℕ) → w ≡ weight c → w ≤ room → IsUtf8 text → text ≡ encode_utf8 c ++ rest → new ≡ out ++ encode_utf8 c → out ++ encode_utf8_all (front room (chars text)) ≡ target → new ++ encode_utf8_all (front (room - w) (chars rest)) ≡ target
front_told room w text rest c out new target e fits utf8 parts added told =
    ap (λ b. b ++ encode_utf8_all (front (room - w) (chars rest))) added ∙ append_assoc out (encode_utf8 c) _ ∙ ap (λ t. out ++ t) (sym (front_past room w text rest c e fits utf8 parts)) ∙ told

pub front_end : (room : ℕ) (text : List ℕ) → text ≡ [] → encode_utf8_all (front room (chars text)) ≡ []
front_end room text e = ap (λ t. encode_utf8_all (front room (chars t))) e ∙ ap (λ cs. encode_utf8_all (front room cs)) chars-nil

-- ---- widths of what is cut and filled

scalars-front : (room : ℕ) (cs : List ℕ) → scalars cs ≡ true → scalars (front room cs) ≡ true
scalars-front room [] h = refl
scalars-front room (c ∷ cs) h =
    let parts = and_parts _ _ h in
    elim (nat_le (weight c) room) as (λ b. scalars (cond b (c ∷ front (room - weight c) cs) []) ≡ true)
    [ true ↦ and_from _ _ parts.0 (scalars-front (room - weight c) cs parts.1) | false ↦ refl ]

IsUtf8-front : (room : ℕ) (text : List ℕ) → IsUtf8 text → IsUtf8 (encode_utf8_all (front room (chars text)))
IsUtf8-front room text utf8 = (front room (chars text), (scalars-front room (chars text) (scalars-chars text utf8), refl))

IsUtf8-if_fits : (columns : ℕ) (text : List ℕ) → IsUtf8 text → IsUtf8 (if_fits columns text)
IsUtf8-if_fits columns text utf8 =
    elim (nat_le (columns_of text) columns) as (λ b. IsUtf8 (cond b text [])) [ true ↦ utf8 | false ↦ IsUtf8-nil ]

pub nothing_wide : columns_of [] ≡ 0
unfolding chars str_width
nothing_wide = refl

spaces_ascii : (n : ℕ) → IsAscii (replicate n 32)
spaces_ascii zero i = omega arith
spaces_ascii (suc n) zero = omega arith
spaces_ascii (suc n) (suc i) = spaces_ascii n i

if_fits_fits : (columns : ℕ) (text : List ℕ) → columns_of (if_fits columns text) ≤ columns
if_fits_fits columns text = ⊎_elim
    (λ wide. let P : Bool → Type 0 = λ b. columns_of (cond b text []) ≤ columns in subst P (sym (le_false (columns_of text) columns wide)) (rw nothing_wide (omega arith)))
    (λ le. let P : Bool → Type 0 = λ b. columns_of (cond b text []) ≤ columns in subst P (sym (le_true (columns_of text) columns le)) le) (cases_lt columns (columns_of text))

cut_fits : (signs : Signs) (columns : ℕ) (text : List ℕ) → 0 < columns → IsUtf8 text → columns_of (cut_front signs columns text) ≤ columns
cut_fits signs columns text some utf8 =
    let kept : List ℕ = if_fits (columns - 1) (encode_utf8_all (front (columns - 1) (chars text))) in
    let whole : IsUtf8 kept = IsUtf8-if_fits (columns - 1) _ (IsUtf8-front (columns - 1) text utf8) in
    let fits : columns_of kept ≤ columns - 1 = if_fits_fits (columns - 1) _ in
    omega (arith, fits, signs_are_columns signs Cut kept whole)

IsUtf8-cut_front : (signs : Signs) (columns : ℕ) (text : List ℕ) → IsUtf8 text → IsUtf8 (cut_front signs columns text)
IsUtf8-cut_front signs columns text utf8 = IsUtf8-append _ _ (IsUtf8-if_fits (columns - 1) _ (IsUtf8-front (columns - 1) text utf8)) (IsUtf8-sign signs Cut)

pub cut_is_within : (signs : Signs) (columns : ℕ) (text : List ℕ) → 0 < columns → IsUtf8 text → (columns_of (cut_text signs columns text) ≤ columns) × IsUtf8 (cut_text signs columns text)
cut_is_within signs columns text some utf8 =
    let P : Bool → Type 0 = λ b. (columns_of (cond b text (cut_front signs columns text)) ≤ columns) × IsUtf8 (cond b text (cut_front signs columns text)) in
    ⊎_elim
    (λ wide. subst P (sym (le_false (columns_of text) columns wide)) (cut_fits signs columns text some utf8, IsUtf8-cut_front signs columns text utf8))
    (λ le. subst P (sym (le_true (columns_of text) columns le)) (le, utf8)) (cases_lt columns (columns_of text))

pub spaces_wide : (text : List ℕ) (n : ℕ) → IsUtf8 text → columns_of (text ++ replicate n 32) ≡ columns_of text + n
spaces_wide text n utf8 =
    ap (str_width false) (chars-append text (replicate n 32) utf8 ∙ ap (λ cs. chars text ++ cs) (chars-IsAscii (replicate n 32) (spaces_ascii n)))
    ∙ str_width-append_simple false (chars text) (replicate n 32) (spaces_simple n)
    ∙ ap (λ m. columns_of text + m) (str_width-spaces n)

pub filled_is_wide : FilledIsWide
filled_is_wide signs columns text some utf8 =
    let cut = cut_is_within signs columns text some utf8 in
    spaces_wide (cut_text signs columns text) (columns - columns_of (cut_text signs columns text)) cut.1 ∙ omega (arith, cut.0)

begun_is_within : (columns : ℕ) (text : List ℕ) → IsUtf8 text → (columns_of (begun_text columns text) ≤ columns) × IsUtf8 (begun_text columns text)
begun_is_within columns text utf8 =
    let front_of : List ℕ = encode_utf8_all (front columns (chars text)) in
    let P : Bool → Type 0 = λ b. (columns_of (cond b text (if_fits columns front_of)) ≤ columns) × IsUtf8 (cond b text (if_fits columns front_of)) in
    ⊎_elim
    (λ wide. subst P (sym (le_false (columns_of text) columns wide)) (if_fits_fits columns front_of, IsUtf8-if_fits columns front_of (IsUtf8-front columns text utf8)))
    (λ le. subst P (sym (le_true (columns_of text) columns le)) (le, utf8)) (cases_lt columns (columns_of text))

pub spread_is_wide : SpreadIsWide
spread_is_wide columns text utf8 =
    let begun = begun_is_within columns text utf8 in
    spaces_wide (begun_text columns text) (columns - columns_of (begun_text columns text)) begun.1 ∙ omega (arith, begun.0)

pub whole_stands : WholeStands
whole_stands signs columns text fits = ap (λ b. cond b text (cut_front signs columns text)) (le_true (columns_of text) columns fits)
