-- Worked examples: what the definitions say of inputs at which a wrong rule says something else.
use Rattle.std.specs.Prelude.{◌≡◌, ℕ, List, [], ◌∷◌}
use Rattle.orgls_text.specs.Positions.{offset_of, position_of}
use Rattle.orgls_text.specs.declared.position.Position.{Position}
use Rattle.orgls_text.specs.declared.position.PositionEncoding.TheVariants.{Utf8, Utf16}

abbrev pub at : ℕ → ℕ → Position
at line character = record { line = line; character = character }

-- a text of three lines: a character of two bytes, one of four, a carriage return with a line feed and one alone
abbrev pub three_lines : List ℕ
three_lines = 98 ∷ 195 ∷ 188 ∷ 240 ∷ 159 ∷ 152 ∷ 128 ∷ 120 ∷ 13 ∷ 10 ∷ 121 ∷ 13 ∷ 122 ∷ []

pub record ExamplesHold : Type 0 where
  -- a character of four bytes is two units of UTF-16, and one of two bytes is one
  pub behind_two : position_of Utf16 three_lines 3 ≡ at 0 2
  pub behind_four : position_of Utf16 three_lines 7 ≡ at 0 4
  pub behind_four_bytes : position_of Utf8 three_lines 7 ≡ at 0 7
  pub back : offset_of Utf16 three_lines (at 0 4) ≡ 7
  -- between the two units of one character is its beginning
  pub inside : offset_of Utf16 three_lines (at 0 3) ≡ 3
  pub inside_bytes : offset_of Utf8 three_lines (at 0 2) ≡ 1
  -- a carriage return and a line feed are one end of a line, and a carriage return alone is another
  pub second_line : offset_of Utf16 three_lines (at 1 0) ≡ 10
  pub third_line : offset_of Utf16 three_lines (at 2 0) ≡ 12
  pub of_second : position_of Utf16 three_lines 10 ≡ at 1 0
  -- beyond a line's end is that end, beyond the last line the text's
  pub line_end : offset_of Utf16 three_lines (at 0 99) ≡ 8
  pub text_end : offset_of Utf16 three_lines (at 3 0) ≡ 13
  pub end_of_none : offset_of Utf16 [] (at 7 7) ≡ 0
  -- a line that a line feed ends is followed by one more
  pub one_more : offset_of Utf16 (120 ∷ 10 ∷ []) (at 1 0) ≡ 2
  pub of_one_more : position_of Utf16 (120 ∷ 10 ∷ []) 2 ≡ at 1 0
