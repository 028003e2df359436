-- Case folding, character by character, and of ASCII.
use Rattle.std.proofs.Common.{◌≡◌, ℕ, suc, List, [], ◌∷◌, ◌++◌, map, sym, ap, ◌∙◌, chars, encode_utf8_all, IsAscii}
use Rattle.std.specs.Char.{encode_utf8, to_ascii_lowercase}
use Rattle.std.specs.Str.{IsUtf8}
use Rattle.std.proofs.lemmas.Str.{chars_past_char, chars-nil, chars-IsAscii, encodes-append, encodes-IsAscii}
use Rattle.std.proofs.lemmas.Str.Ascii.{All-from_ascii, IsAscii-cons, IsAscii-nil, lowercase_ascii}
use Rattle.std.proofs.lemmas.List.{append_assoc}
use Rattle.ucd_case.specs.CaseFolding.{full_fold}
use Rattle.caseless.specs.Caseless.{default_case_fold}
use Rattle.caseless.proofs.CaselessLemmas.{default_case_fold-ascii, default_case_fold-cons, default_case_fold-nil}
use Rattle.org_search.specs.Folded.{folded}

lower_ascii : (text : List ℕ) → IsAscii text → IsAscii (map to_ascii_lowercase text)
lower_ascii [] ascii = IsAscii-nil
lower_ascii (b ∷ text) ascii = IsAscii-cons _ _ (lowercase_ascii b (ascii 0)) (lower_ascii text (λ i. ascii (suc i)))

pub folded_ascii : (text : List ℕ) → IsAscii text → folded text ≡ map to_ascii_lowercase text
folded_ascii text ascii =
    ap (λ cs. encode_utf8_all (default_case_fold cs)) (chars-IsAscii text ascii)
    ∙ ap encode_utf8_all (default_case_fold-ascii text (All-from_ascii text ascii))
    ∙ encodes-IsAscii _ (lower_ascii text ascii)

fold_past : (text rest : List ℕ) (c : ℕ) → IsUtf8 text → text ≡ encode_utf8 c ++ rest → encode_utf8_all (default_case_fold (chars text)) ≡ encode_utf8_all (full_fold c) ++ encode_utf8_all (default_case_fold (chars rest))
fold_past text rest c utf8 parts =
    ap (λ cs. encode_utf8_all (default_case_fold cs)) (chars_past_char text rest c utf8 parts)
    ∙ ap encode_utf8_all (default_case_fold-cons c (chars rest))
    ∙ encodes-append (full_fold c) (default_case_fold (chars rest))

pub fold_told : (text rest : List ℕ) (c : ℕ) (out new target : List ℕ) → IsUtf8 text → text ≡ encode_utf8 c ++ rest → new ≡ out ++ encode_utf8_all (full_fold c) → out ++ encode_utf8_all (default_case_fold (chars text)) ≡ target → new ++ encode_utf8_all (default_case_fold (chars rest)) ≡ target
fold_told text rest c out new target utf8 parts added told =
    ap (λ b. b ++ encode_utf8_all (default_case_fold (chars rest))) added
    ∙ append_assoc out (encode_utf8_all (full_fold c)) _
    ∙ ap (λ t. out ++ t) (sym (fold_past text rest c utf8 parts)) ∙ told

pub fold_end : (text : List ℕ) → text ≡ [] → encode_utf8_all (default_case_fold (chars text)) ≡ []
fold_end text e = ap (λ t. encode_utf8_all (default_case_fold (chars t))) e ∙ ap (λ cs. encode_utf8_all (default_case_fold cs)) chars-nil ∙ ap encode_utf8_all default_case_fold-nil
