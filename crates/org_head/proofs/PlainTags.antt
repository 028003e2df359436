-- ASCII characters that may stand among tags are UTF-8, and each byte is a character of tags or a colon.
use Rattle.std.proofs.Common.{◌≡◌, ℕ, ◌<◌, true, ◌&&◌, ◌||◌, ◌==◌, List, [], ◌∷◌, refl, ap, ◌∙◌, subst, ltb-true}
use Rattle.std.specs.Char.{is_ascii_alphanumeric}
use Rattle.std.specs.List.{list_all, All}
use Rattle.std.specs.Str.{is_utf8, IsAscii}
use Rattle.std.proofs.lemmas.Bool.{and_parts, and_from}
use Rattle.std.proofs.lemmas.List.Elements.{All-cons, All-nil}
use Rattle.std.proofs.lemmas.Str.{IsUtf8-from_ascii, is_utf8-from_IsUtf8, chars-IsAscii}
use Rattle.std.proofs.lemmas.Str.Ascii.{IsAscii-from_all}
use Rattle.unicode.proofs.Facts.{Stepped-below, same_from_beq}
use Rattle.unicode.proofs.Stepped.{zip_stepped}
use Rattle.unicode.specs.GeneralCategory.{general_category, general_category_number}
use Rattle.unicode.proofs.CategoryComputing.{ucd_category}
use Rattle.unicode.proofs.GeneralCategoryLemmas.{general_category_stepped}
use Rattle.unicode.specs.Binary.{is_alphabetic}
use Rattle.unicode.proofs.BinaryLemmas.{is_alphabetic_stepped}
use Rattle.unicode.proofs.DerivedComputing.{ucd_derived}
use Rattle.std.specs.Bool.{beq}
use Rattle.org_base.specs.Characters.{is_alphanumeric, is_tag_char}
use Rattle.org_head.specs.Parts.{is_colon, is_plain_tag_char, are_tag_chars}

pub alphanumeric : (c : ℕ) → c < 128 → is_ascii_alphanumeric c ≡ is_alphanumeric c
unfolding ucd_category ucd_derived
alphanumeric c below =
    let steps = zip_stepped (λ a g. a || (general_category_number g == 8)) is_alphabetic general_category is_alphabetic_stepped general_category_stepped in
    same_from_beq _ _ (Stepped-below is_alphanumeric steps (λ x v. beq (is_ascii_alphanumeric x) v) 128 refl c below)

below_128 : (c : ℕ) → is_plain_tag_char c ≡ true → c < 128
below_128 c h = ltb-true _ _ (and_parts _ _ h).0

tag_char : (c : ℕ) → is_plain_tag_char c ≡ true → (is_tag_char c || is_colon c) ≡ true
tag_char c h =
    subst (λ a. ((a || (c == 95 || (c == 64 || (c == 35 || c == 37)))) || is_colon c) ≡ true) (alphanumeric c (below_128 c h)) (and_parts _ _ h).1

all_below : (w : List ℕ) → list_all is_plain_tag_char w ≡ true → All (λ b. b < 128) w
all_below [] h = All-nil (λ b. b < 128)
all_below (b ∷ bs) h = let both = and_parts _ _ h in All-cons (λ c. c < 128) b bs (below_128 b both.0) (all_below bs both.1)

all_tag_chars : (w : List ℕ) → list_all is_plain_tag_char w ≡ true → list_all (λ c. is_tag_char c || is_colon c) w ≡ true
all_tag_chars [] h = refl
all_tag_chars (b ∷ bs) h = let both = and_parts _ _ h in and_from _ _ (tag_char b both.0) (all_tag_chars bs both.1)

pub plain_tag_text : (w : List ℕ) → list_all is_plain_tag_char w ≡ true → (is_utf8 w && are_tag_chars w) ≡ true
plain_tag_text w h =
    let ascii : IsAscii w = IsAscii-from_all w (all_below w h) in
    and_from _ _ (is_utf8-from_IsUtf8 w (IsUtf8-from_ascii w ascii)) (ap (list_all (λ c. is_tag_char c || is_colon c)) (chars-IsAscii w ascii) ∙ all_tag_chars w h)
