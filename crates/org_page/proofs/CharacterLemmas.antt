-- Steps over the characters of a text.
use Rattle.std.proofs.Common.{◌≡◌, ℕ, List, [], ◌++◌, sym, ap, ◌∙◌, encode_utf8_all}
use Rattle.std.specs.Char.{encode_utf8}
use Rattle.std.specs.Str.{chars, IsUtf8}
use Rattle.std.proofs.lemmas.Str.{chars_past_char, chars-nil, encodes-append}
use Rattle.std.proofs.lemmas.List.{append_assoc}
use Rattle.org_page.specs.Characters.{char_text, part_text}
use Rattle.org_page.specs.declared.character.Part.{Part}

part_past : (part : Part) (text rest : List ℕ) (c : ℕ) → IsUtf8 text → text ≡ encode_utf8 c ++ rest → encode_utf8_all (part_text part (chars text)) ≡ encode_utf8_all (char_text part c) ++ encode_utf8_all (part_text part (chars rest))
part_past part text rest c utf8 parts =
    ap (λ cs. encode_utf8_all (part_text part cs)) (chars_past_char text rest c utf8 parts) ∙ encodes-append (char_text part c) (part_text part (chars rest))

pub part_told : (part : Part) (text rest : List ℕ) (c : ℕ) (out new target : List ℕ) → IsUtf8 text → text ≡ encode_utf8 c ++ rest → new ≡ out ++ encode_utf8_all (char_text part c) → out ++ encode_utf8_all (part_text part (chars text)) ≡ target → new ++ encode_utf8_all (part_text part (chars rest)) ≡ target
part_told part text rest c out new target utf8 parts added told =
    ap (λ b. b ++ encode_utf8_all (part_text part (chars rest))) added
    ∙ append_assoc out (encode_utf8_all (char_text part c)) _
    ∙ ap (λ t. out ++ t) (sym (part_past part text rest c utf8 parts)) ∙ told

pub part_end : (part : Part) (text : List ℕ) → text ≡ [] → encode_utf8_all (part_text part (chars text)) ≡ []
part_end part text e = ap (λ t. encode_utf8_all (part_text part (chars t))) e ∙ ap (λ cs. encode_utf8_all (part_text part cs)) chars-nil
