-- Keywords of files that have none of their own (profile).
use Rattle.std.specs.Prelude.{ℕ, Bool, true, false, ◌==◌, ◌-◌, not, if◌then◌else◌, List, [], ◌∷◌, ◌++◌, Option, None, Some, codes, length, slice_get}
use Rattle.org_class.specs.Classes.{setting_lines}
use Rattle.org_settings.specs.Keywords.{keyword_place, keywords}

-- a keyword that no file has, and a line that names it
abbrev pub probe : List ℕ
probe = 1 ∷ []

abbrev pub probe_line : List ℕ
probe_line = codes "#+TODO: " ++ probe

-- a place is there, and isn't the first
abbrev pub is_not_first : Option ℕ → Bool
is_not_first None = true
is_not_first (Some place) = not (place == 0)

-- a text has keywords of its own: one that a further line names isn't the first
abbrev pub names_keywords : List ℕ → Bool
names_keywords text = is_not_first (keyword_place (keywords (setting_lines text ++ probe_line ∷ [])) probe)

-- the last line of a text doesn't end with a line feed
abbrev pub is_no_feed : Option ℕ → Bool
is_no_feed None = false
is_no_feed (Some byte) = not (byte == 10)

abbrev pub lacks_feed : List ℕ → Bool
lacks_feed text = is_no_feed (slice_get text (length text - 1))

-- a line of keywords as it stands after a text
abbrev pub line_after : List ℕ → List ℕ → List ℕ
line_after text words = (if lacks_feed text then 10 ∷ [] else []) ++ codes "#+TODO: " ++ words ++ 10 ∷ []

-- the line of keywords that is read after a text
abbrev pub line_behind : List ℕ → List ℕ → List ℕ
line_behind text words = if names_keywords text then [] else line_after text words

-- a text with it
abbrev pub with_keywords : List ℕ → List ℕ → List ℕ
with_keywords text words = text ++ line_behind text words
