-- Texts cut and filled to so many columns.
use Rattle.std.specs.Prelude.{◌≡◌, ℕ, ◌-◌, ◌<◌, ◌≤◌, ◌++◌, Bool, nat_le, if◌then◌else◌, List, [], ◌∷◌, chars, encode_utf8_all, replicate, unwrap_or, false}
use Rattle.std.specs.Str.{IsUtf8}
use Rattle.std.specs.Int.{is_in_range}
use Rattle.unicode_width.specs.Width.{char_width}
use Rattle.org_look.specs.Signs.{sign_text}
use Rattle.org_look.specs.Widths.{columns_of}
use Rattle.org_look.specs.declared.sign.Sign.TheVariants.{Cut}
use Rattle.org_look.specs.declared.sign.Signs.{Signs}

-- what a character counts where a text is cut: its width, and a variation selector 1, since it may widen what it follows
abbrev pub weight : ℕ → ℕ
weight c = if is_in_range 0xFE00 0xFE0F c then 1 else unwrap_or (char_width false c) 1

-- as many of the characters as there is room for
abbrev pub front : ℕ → List ℕ → List ℕ
front room [] = []
front room (c ∷ cs) = if nat_le (weight c) room then c ∷ front (room - weight c) cs else []

-- a text that takes no more than the columns, else nothing
abbrev pub if_fits : ℕ → List ℕ → List ℕ
if_fits columns text = if nat_le (columns_of text) columns then text else []

-- a front of a text and the sign of a cut
abbrev pub cut_front : Signs → ℕ → List ℕ → List ℕ
cut_front signs columns text = if_fits (columns - 1) (encode_utf8_all (front (columns - 1) (chars text))) ++ sign_text signs Cut

-- the text where it fits, else a front of it
abbrev pub cut_text : Signs → ℕ → List ℕ → List ℕ
cut_text signs columns text = if nat_le (columns_of text) columns then text else cut_front signs columns text

-- the same, with spaces behind it up to so many columns
abbrev pub filled_text : Signs → ℕ → List ℕ → List ℕ
filled_text signs columns text = cut_text signs columns text ++ replicate (columns - columns_of (cut_text signs columns text)) 32

-- the text where it fits, else as much of its front as fits
abbrev pub begun_text : ℕ → List ℕ → List ℕ
begun_text columns text = if nat_le (columns_of text) columns then text else if_fits columns (encode_utf8_all (front columns (chars text)))

-- the same, with spaces behind it up to so many columns
abbrev pub spread_text : ℕ → List ℕ → List ℕ
spread_text columns text = begun_text columns text ++ replicate (columns - columns_of (begun_text columns text)) 32

-- a cell is narrow that has no room for a time and five more columns
abbrev pub is_narrow : ℕ → Bool
is_narrow columns = nat_le columns 10

-- a row in a cell: with a space behind it, in a narrow one as much of its front as fits
abbrev pub row_text : Signs → ℕ → List ℕ → List ℕ
row_text signs columns label = if is_narrow columns then spread_text columns label else filled_text signs columns (cut_text signs (columns - 1) label)

-- a text in so many columns takes exactly so many, whatever it is
abbrev pub FilledIsWide : Type 0
FilledIsWide = (signs : Signs) (columns : ℕ) (text : List ℕ) → 0 < columns → IsUtf8 text → columns_of (filled_text signs columns text) ≡ columns

abbrev pub SpreadIsWide : Type 0
SpreadIsWide = (columns : ℕ) (text : List ℕ) → IsUtf8 text → columns_of (spread_text columns text) ≡ columns

-- a text that fits isn't cut
abbrev pub WholeStands : Type 0
WholeStands = (signs : Signs) (columns : ℕ) (text : List ℕ) → columns_of text ≤ columns → cut_text signs columns text ≡ text
