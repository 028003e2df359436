-- Columns of a text, character by character.
use Rattle.std.proofs.Common.{◌≡◌, ◌∙◌, ℕ, Bool, true, false, List, [], ◌++◌, refl, sym, ap}
use Rattle.std.specs.Char.{encode_utf8}
use Rattle.std.specs.Prelude.{if◌then◌else◌}
use Rattle.std.specs.Str.{IsUtf8, chars, is_utf8}
use Rattle.std.proofs.lemmas.Str.{IsUtf8-from_is_utf8, chars-nil, chars_past_char, is_utf8-from_IsUtf8}
use Rattle.org_amend.specs.TagsColumn.{column_after, columns_from, columns_of}

pub one_passed : (text rest : List ℕ) (c column next whole : ℕ) → IsUtf8 text → text ≡ encode_utf8 c ++ rest → next ≡ column_after column c → columns_from column (chars text) ≡ whole → columns_from next (chars rest) ≡ whole
one_passed text rest c column next whole utf8 parts is told =
    ap (λ n. columns_from n (chars rest)) is ∙ (sym (ap (columns_from column) (chars_past_char text rest c utf8 parts)) ∙ told)

pub none_left : (text : List ℕ) (column : ℕ) → text ≡ [] → columns_from column (chars text) ≡ column
none_left text column e = ap (λ t. columns_from column (chars t)) e ∙ ap (columns_from column) chars-nil

pub of_text : (text bytes : List ℕ) → text ≡ bytes → IsUtf8 bytes → columns_from 0 (chars text) ≡ columns_of bytes
of_text text bytes same utf8 = ap (λ t. columns_from 0 (chars t)) same ∙ sym (rw (is_utf8-from_IsUtf8 bytes utf8) refl)

pub of_no_text : (bytes : List ℕ) → (IsUtf8 bytes → ⊥) → 0 ≡ columns_of bytes
of_no_text bytes other = by (is_utf8 bytes) refl
  where
    by : (b : Bool) → is_utf8 bytes ≡ b → 0 ≡ (if b then columns_from 0 (chars bytes) else 0)
    by true e = absurd (other (IsUtf8-from_is_utf8 bytes e))
    by false e = refl
