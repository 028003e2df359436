-- What is written of rows has no control character.
use Rattle.std.proofs.Common.{ℕ, ◌^◌, ◌<◌, Bool, true, false, cond, List, [], ◌∷◌, refl, arith, drop}
use Rattle.std.specs.Prelude.{codes, decimal}
use Rattle.std.specs.Str.Parse.{AllDigits}
use Rattle.std.proofs.lemmas.Fmt.{decimal_is_IsNumeral}
use Rattle.std.proofs.lemmas.Str.Parse.{digit_from_value}
use Rattle.org_visible.specs.Clean.{IsClean}
use Rattle.org_client.specs.Json.{begins_quoted, field_text, quoted}
use Rattle.org_visible.specs.Visible.{visible}
use Rattle.org_visible.specs.declared.visible.Escape.TheVariants.{Json, Field}
use Rattle.org_visible.proofs.CleanLemmas.{clean_append, clean_byte, clean_front, visible_is_clean}

pub quoted_clean : (text : List ℕ) → IsClean (quoted text)
quoted_clean text =
    clean_append (34 ∷ visible Json text) (34 ∷ []) (clean_front 34 (visible Json text) (omega arith) (omega arith) (visible_is_clean Json text)) (clean_byte 34 (omega arith) (omega arith))

pub field_clean : (text : List ℕ) → IsClean (field_text text)
field_clean text = by (begins_quoted text)
  where
    by : (t : Bool) → IsClean (cond t (39 ∷ visible Field (drop 1 text)) (visible Field text))
    by true = clean_front 39 (visible Field (drop 1 text)) (omega arith) (omega arith) (visible_is_clean Field (drop 1 text))
    by false = visible_is_clean Field text

digits_clean : (ds : List ℕ) → AllDigits 10 ds → IsClean ds
digits_clean [] digits = refl
digits_clean (d ∷ ds) digits =
    let is = digit_from_value d digits.0 in
    clean_front d ds (omega (arith, is.0)) (omega (arith, is.0, is.1)) (digits_clean ds digits.1)

pub decimal_clean : (n : ℕ) → n < 2 ^ 64 → IsClean (decimal n)
decimal_clean n small = digits_clean (decimal n) (decimal_is_IsNumeral n small).0.1

pub flag_clean : (flag : Bool) → IsClean (cond flag (codes "true") (codes "false"))
flag_clean true = refl
flag_clean false = refl
