-- What a section holds: a word or a pattern that one of its lines holds (profile).
use Rattle.std.specs.Prelude.{ℕ, Bool, ◌-◌, ◌&&◌, ◌==◌, not, List, [], get_or, length, nat_lt, take, if◌then◌else◌}
use Rattle.std.specs.List.{list_all, list_any}
use Rattle.std.specs.Str.{is_utf8}
use Rattle.org_match.specs.Patterns.{found_in}
use Rattle.org_search.specs.Folded.{folded, stands_in}
use Rattle.org_search.specs.Typed.{Asked, Sought, Word, Pattern}

-- a text without the byte at its end, if it ends with that one
abbrev pub without_last : ℕ → List ℕ → List ℕ
without_last b text = if nat_lt 0 (length text) && (get_or text (length text - 1) 0 == b) then take (length text - 1) text else text

-- a line without the line feed at its end, and without a carriage return in front of that
abbrev pub without_ending : List ℕ → List ℕ
without_ending line = without_last 13 (without_last 10 line)

-- the text of a line; none of bytes that are no UTF-8, which no file has
abbrev pub bare : List ℕ → List ℕ
bare line = if is_utf8 (without_ending line) then without_ending line else []

-- a line holds a word where some place of it begins with the word, both with their case folded; and a pattern that is found in it
abbrev pub line_holds : Sought → List ℕ → Bool
line_holds (Word word) line = stands_in word (folded line)
line_holds (Pattern pattern) line = found_in pattern line

-- one of the lines does
abbrev pub lines_hold : List (List ℕ) → Sought → Bool
lines_hold lines sought = list_any (λ line. line_holds sought (bare line)) lines

-- what has to be there is held, what mustn't be isn't
abbrev pub meets : Bool → Bool → Bool
meets is_wanted is_held = if is_wanted then is_held else not is_held

-- what is asked is met by these lines
abbrev pub is_met : List (List ℕ) → Asked → Bool
is_met lines asked = meets asked.is_wanted (lines_hold lines asked.sought)

-- the lines hold all that has to be there, and nothing that mustn't
abbrev pub are_met : List Asked → List (List ℕ) → Bool
are_met asked lines = list_all (is_met lines) asked

-- the line holds something that has to be there
abbrev pub matches : List Asked → List ℕ → Bool
matches asked line = list_any (λ a. a.is_wanted && line_holds a.sought line) asked
