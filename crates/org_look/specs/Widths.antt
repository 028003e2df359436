-- How wide texts are in a terminal, and what keeps texts beside one another apart.
use Rattle.std.specs.Prelude.{◌≡◌, ℕ, ◌+◌, ◌++◌, false, List, chars}
use Rattle.std.specs.Str.{IsUtf8}
use Rattle.unicode_width.specs.Width.{str_width}

-- the columns that a text takes
abbrev pub columns_of : List ℕ → ℕ
columns_of text = str_width false (chars text)

-- it takes one column of its own between any two texts, whatever they end and begin with
abbrev pub IsFence : List ℕ → Type 0
IsFence fence =
    (before after : List ℕ) → IsUtf8 before → columns_of (before ++ (fence ++ after)) ≡ columns_of before + (1 + columns_of after)
