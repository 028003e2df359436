-- The marks of the grammar are no characters of words.
use Rattle.std.proofs.Common.{◌≡◌, ◌≢◌, ℕ, true, false, refl, ap, sym, ◌∙◌}
use Rattle.unicode.proofs.DerivedComputing.{ucd_derived}
use Rattle.unicode.proofs.CategoryComputing.{ucd_category}
use Rattle.org_base.specs.Characters.{is_tag_char}

pub no_word-quote : is_tag_char 34 ≡ false
unfolding ucd_derived ucd_category
no_word-quote = refl

pub no_word-and : is_tag_char 38 ≡ false
unfolding ucd_derived ucd_category
no_word-and = refl

pub no_word-plus : is_tag_char 43 ≡ false
unfolding ucd_derived ucd_category
no_word-plus = refl

pub no_word-minus : is_tag_char 45 ≡ false
unfolding ucd_derived ucd_category
no_word-minus = refl

pub no_word-slash : is_tag_char 47 ≡ false
unfolding ucd_derived ucd_category
no_word-slash = refl

pub no_word-less : is_tag_char 60 ≡ false
unfolding ucd_derived ucd_category
no_word-less = refl

pub no_word-equal : is_tag_char 61 ≡ false
unfolding ucd_derived ucd_category
no_word-equal = refl

pub no_word-greater : is_tag_char 62 ≡ false
unfolding ucd_derived ucd_category
no_word-greater = refl

pub no_word-bang : is_tag_char 33 ≡ false
unfolding ucd_derived ucd_category
no_word-bang = refl

pub no_word-backslash : is_tag_char 92 ≡ false
unfolding ucd_derived ucd_category
no_word-backslash = refl

pub no_word-brace : is_tag_char 123 ≡ false
unfolding ucd_derived ucd_category
no_word-brace = refl

pub no_word-or : is_tag_char 124 ≡ false
unfolding ucd_derived ucd_category
no_word-or = refl

-- a character of words is none of them
pub record NoMark (c : ℕ) : Type 0 where
  pub and : c ≢ 38
  pub plus : c ≢ 43
  pub minus : c ≢ 45
  pub slash : c ≢ 47
  pub less : c ≢ 60
  pub equal : c ≢ 61
  pub greater : c ≢ 62
  pub bang : c ≢ 33
  pub backslash : c ≢ 92
  pub brace : c ≢ 123
  pub or : c ≢ 124

differs : (c m : ℕ) → is_tag_char c ≡ true → is_tag_char m ≡ false → c ≢ m
differs c m h k e = let both : true ≡ false = sym h ∙ ap is_tag_char e ∙ k in cc

pub no_mark : (c : ℕ) → is_tag_char c ≡ true → NoMark c
no_mark c h = record {
  and = differs c 38 h no_word-and;
  plus = differs c 43 h no_word-plus;
  minus = differs c 45 h no_word-minus;
  slash = differs c 47 h no_word-slash;
  less = differs c 60 h no_word-less;
  equal = differs c 61 h no_word-equal;
  greater = differs c 62 h no_word-greater;
  bang = differs c 33 h no_word-bang;
  backslash = differs c 92 h no_word-backslash;
  brace = differs c 123 h no_word-brace;
  or = differs c 124 h no_word-or;
}
