-- Texts as a terminal may show them, character by character.
use Rattle.std.proofs.Common.{Bool, subst, ◌≡◌, ℕ, true, false, cond, List, [], ◌∷◌, ◌++◌, map, refl, sym, ap, ◌∙◌, encode_utf8_all, All}
use Rattle.std.specs.Char.{encode_utf8}
use Rattle.std.specs.Str.{chars, IsUtf8}
use lib.Utf8.{scalars}
use Rattle.std.proofs.lemmas.Str.{chars_past_char, chars-nil, chars-encodes, scalars-chars}
use Rattle.std.proofs.lemmas.Bool.{and_parts, and_from}
use Rattle.std.proofs.lemmas.List.{append_assoc}
use Rattle.std.proofs.lemmas.List.Elements.{All-map, All-nil, All-cons}
use Rattle.org_day.specs.Shown.{IsShown, is_hidden, shown}

shown_past : (text rest : List ℕ) (c : ℕ) → IsUtf8 text → text ≡ encode_utf8 c ++ rest → encode_utf8_all (map shown (chars text)) ≡ encode_utf8 (shown c) ++ encode_utf8_all (map shown (chars rest))
shown_past text rest c utf8 parts = ap (λ cs. encode_utf8_all (map shown cs)) (chars_past_char text rest c utf8 parts)

pub shown_told : (text rest : List ℕ) (c d : ℕ) (out new target : List ℕ) → IsUtf8 text → text ≡ encode_utf8 c ++ rest → d ≡ shown c → new ≡ out ++ encode_utf8 d → out ++ encode_utf8_all (map shown (chars text)) ≡ target → new ++ encode_utf8_all (map shown (chars rest)) ≡ target
shown_told text rest c d out new target utf8 parts is added told =
    ap (λ b. b ++ encode_utf8_all (map shown (chars rest))) (added ∙ ap (λ e. out ++ encode_utf8 e) is)
    ∙ append_assoc out (encode_utf8 (shown c)) _
    ∙ ap (λ t. out ++ t) (sym (shown_past text rest c utf8 parts))
    ∙ told

pub shown_end : (text : List ℕ) → text ≡ [] → encode_utf8_all (map shown (chars text)) ≡ []
shown_end text e = ap (λ t. encode_utf8_all (map shown (chars t))) e ∙ ap (λ cs. encode_utf8_all (map shown cs)) chars-nil

-- a character that stands in place of another, or that one
scalar_shown : (c : ℕ) → scalars (c ∷ []) ≡ true → scalars (shown c ∷ []) ≡ true
scalar_shown c h = elim (is_hidden c) as (λ b. scalars (cond b 0xFFFD c ∷ []) ≡ true) [ true ↦ refl | false ↦ h ]

scalars_shown : (cs : List ℕ) → scalars cs ≡ true → scalars (map shown cs) ≡ true
scalars_shown [] h = refl
scalars_shown (c ∷ cs) h =
    let parts = and_parts _ _ h in
    let first = and_parts _ _ (scalar_shown c (and_from _ _ parts.0 refl)) in
    and_from _ _ first.0 (scalars_shown cs parts.1)

not_hidden : (c : ℕ) → is_hidden (shown c) ≡ false
not_hidden c = elim (is_hidden c) as (λ b. is_hidden c ≡ b → is_hidden (cond b 0xFFFD c) ≡ false) [ true ↦ λ e. refl | false ↦ λ e. e ] refl

all_shown : (cs : List ℕ) → All (λ c. is_hidden (shown c) ≡ false) cs
all_shown [] = All-nil (λ x. is_hidden (shown x) ≡ false)
all_shown (c ∷ cs) = All-cons (λ x. is_hidden (shown x) ≡ false) c cs (not_hidden c) (all_shown cs)

pub shown_is_shown : (text bytes : List ℕ) → IsUtf8 text → bytes ≡ encode_utf8_all (map shown (chars text)) → IsShown bytes
shown_is_shown text bytes utf8 is =
    let cs : List ℕ = map shown (chars text) in
    let spelled : chars bytes ≡ cs = ap chars is ∙ chars-encodes cs (scalars_shown (chars text) (scalars-chars text utf8)) in
    subst (All (λ c. is_hidden c ≡ false)) (sym spelled) (All-map (λ c. is_hidden c ≡ false) shown (chars text) (all_shown (chars text)))
