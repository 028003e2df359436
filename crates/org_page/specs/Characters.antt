-- How characters stand in a page.
use Rattle.std.specs.Prelude.{ℕ, ◌%◌, Bool, ◌&&◌, ◌||◌, ◌==◌, not, nat_lt, nat_le, if◌then◌else◌, List, [], ◌∷◌, codes}
use Rattle.std.specs.List.{flat_map}
use Rattle.org_visible.specs.Unseen.{is_mark}
use Rattle.org_page.specs.declared.character.Part.{Part}
use Rattle.org_page.specs.declared.character.Part.TheVariants.{Name, Words}

-- a control character other than a tab and a line feed
abbrev pub is_control : ℕ → Bool
is_control c = nat_lt c 9 || (nat_le 11 c && nat_lt c 32) || (nat_le 127 c && nat_lt c 160)

-- a number that is set aside and no character
abbrev pub is_set_aside : ℕ → Bool
is_set_aside c = (nat_le 64976 c && nat_lt c 65008) || nat_le 65534 (c % 65536)

-- what is no character of a page stands as U+FFFD, and so do marks that turn or hide what stands beside them
abbrev pub is_left_out : ℕ → Bool
is_left_out c = is_control c || (is_set_aside c || is_mark c)

abbrev pub shown_char : ℕ → ℕ
shown_char c = if is_left_out c then 65533 else c

-- the five that mean something in a page stand by their names
abbrev pub words_char : ℕ → List ℕ
words_char c =
    if c == 38 then codes "&amp;" else
    if c == 60 then codes "&lt;" else
    if c == 62 then codes "&gt;" else
    if c == 34 then codes "&quot;" else
    if c == 39 then codes "&#x27;" else
    shown_char c ∷ []

-- what the name of a tag or an attribute has: letters, digits, a dash, a slash, an exclamation mark and a space
abbrev pub is_name_char : ℕ → Bool
is_name_char c =
    (nat_le 97 c && nat_lt c 123) || (nat_le 65 c && nat_lt c 91) || (nat_le 48 c && nat_lt c 58)
    || (c == 45) || (c == 47) || (c == 33) || (c == 32)

-- a name has nothing else
abbrev pub name_char : ℕ → List ℕ
name_char c = if is_name_char c then c ∷ [] else []

abbrev pub char_text : Part → ℕ → List ℕ
char_text Name c = name_char c
char_text Words c = words_char c

-- a name, or the words of a text, as they stand in a page
abbrev pub part_text : Part → List ℕ → List ℕ
part_text part cs = flat_map (char_text part) cs
