-- How many spaces stand before the tags of a heading line, and before the value of a property (profile, as Org writes them where
-- `org-tags-column` is -77 and `org-property-format` "%-10s %s"; columns count by the width of characters, as in a terminal).
-- Characters by their codes: 9 tab.
use Rattle.std.specs.Prelude.{ℕ, ◌+◌, ◌-◌, ◌*◌, ◌/◌, ◌==◌, nat_lt, if◌then◌else◌, List, [], ◌∷◌, false, chars, unwrap_or}
use Rattle.std.specs.Str.{is_utf8}
use Rattle.org_amend.specs.declared.tags_column.TheConstants.{TAGS_COLUMN, VALUE_COLUMN}
use Rattle.unicode_width.specs.Width.{char_width}

-- a column, at most the one in which tags end
abbrev pub capped : ℕ → ℕ
capped column = if nat_lt TAGS_COLUMN column then TAGS_COLUMN else column

-- the column behind a character that stands in another one; a tab goes on to the next eighth
abbrev pub column_after : ℕ → ℕ → ℕ
column_after column c = capped (if c == 9 then (column / 8 + 1) * 8 else column + unwrap_or (char_width false c) 0)

abbrev pub columns_from : ℕ → List ℕ → ℕ
columns_from column [] = column
columns_from column (c ∷ cs) = columns_from (column_after column c) cs

-- how many columns bytes take
abbrev pub columns_of : List ℕ → ℕ
columns_of bytes = if is_utf8 bytes then columns_from 0 (chars bytes) else 0

-- so many that tags end in their column, but at least one
abbrev pub or_one : ℕ → ℕ
or_one room = if room == 0 then 1 else room

-- how many spaces stand between a property's name and its value: that begins in column 11, but at least one space behind
abbrev pub spaces_behind : List ℕ → ℕ
spaces_behind name = or_one (VALUE_COLUMN - columns_of name)

abbrev pub spaces_before : List ℕ → List ℕ → ℕ
spaces_before front tags = or_one ((TAGS_COLUMN - columns_of tags) - columns_of front)
