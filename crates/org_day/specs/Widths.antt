-- How wide texts are in a terminal.
use Rattle.std.specs.Prelude.{ℕ, false, List, chars}
use Rattle.unicode_width.specs.Width.{str_width}

-- the columns that a text takes
abbrev pub columns_of : List ℕ → ℕ
columns_of text = str_width false (chars text)
