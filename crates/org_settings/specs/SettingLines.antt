-- Key and value of a setting line, and what one line says (Org Syntax, "Keywords"; Org manual 9.6, "Tag Inheritance";
-- "Categories"; "Property Syntax"; "Priorities"; which line counts of several: profile).
-- Characters by their codes: 43 +, 58 :.
use Rattle.std.specs.Prelude.{ℕ, ◌+◌, Bool, ◌&&◌, not, ◌==◌, if◌then◌else◌, List, [], ◌∷◌, length, drop, take_while, get_or, slice_index, codes, Option, Some, None, ◌-◌, take, nat_lt}
use Rattle.std.specs.List.{prefix_len}
use Rattle.org_base.specs.Properties.{Given}
use Rattle.org_base.specs.Words.{trim_start, trimmed, first_word, same_word}
use Rattle.org_settings.specs.Pieces.{pieces, words}
use Rattle.org_settings.specs.Priority.{is_priority, priority_number}

-- how many bytes stand before the first colon
abbrev pub key_len : List ℕ → ℕ
key_len text = prefix_len (λ b. not (b == 58)) text

-- KEY of a setting line `#+KEY: VALUE`: what stands before its first colon
abbrev pub setting_key : List ℕ → List ℕ
setting_key line = drop 2 (take_while (λ b. not (b == 58)) (trim_start line))

-- VALUE of a setting line: what stands after its first colon, trimmed
abbrev pub setting_value : List ℕ → List ℕ
setting_value line = trimmed (drop (key_len (trim_start line) + 1) (trim_start line))

-- the setting line has the key; letter case doesn't count
abbrev pub has_key : List ℕ → List ℕ → Bool
has_key key line = same_word (setting_key line) key

-- the tags that a line names, if it is a line of `#+FILETAGS`: the pieces between colons and white space
abbrev pub tags_in : List ℕ → List (List ℕ)
tags_in line = if has_key (codes "FILETAGS") line then pieces 58 (setting_value line) else []

-- the category that a line names, if it is a line of `#+CATEGORY`
abbrev pub category_in : List ℕ → Option (List ℕ)
category_in line = if has_key (codes "CATEGORY") line then Some (setting_value line) else None

-- the default of three words that are priorities
abbrev pub default_of_three : List ℕ → List ℕ → List ℕ → Option ℕ
default_of_three highest lowest default = if is_priority highest && (is_priority lowest && is_priority default) then Some (priority_number default) else None

-- the default among the words of such a line, if there are three
abbrev pub default_of : List (List ℕ) → Option ℕ
default_of ws = if length ws == 3 then default_of_three (get_or ws 0 []) (get_or ws 1 []) (get_or ws 2 []) else None

-- the default priority that a line names, if three priorities stand there
abbrev pub default_in : List ℕ → Option ℕ
default_in line = if has_key (codes "PRIORITIES") line then default_of (words (setting_value line)) else None

-- the word ends in +, so that the value is appended
abbrev pub is_appended : List ℕ → Bool
is_appended word = slice_index word (length word - 1) == 43

-- the word without its last +
abbrev pub name_of : List ℕ → List ℕ
name_of word = if is_appended word then take (length word - 1) word else word

-- a name isn't empty and doesn't end in +
abbrev pub is_name : List ℕ → Bool
is_name name = nat_lt 0 (length name) && not (is_appended name)

-- what stands after the first word, trimmed
abbrev pub value_behind : List ℕ → List ℕ
value_behind text = trimmed (drop (length (first_word text)) (trim_start text))

-- what a text NAME VALUE or NAME+ VALUE gives
abbrev pub given_by : List ℕ → List Given
given_by text =
    let word = first_word text in
    if is_name (name_of word) then record { name = name_of word; appends = is_appended word; value = value_behind text } ∷ [] else []

-- what a line gives, if it is a line `#+PROPERTY: NAME VALUE`
abbrev pub property_in : List ℕ → List Given
property_in line = if has_key (codes "PROPERTY") line then given_by (setting_value line) else []
