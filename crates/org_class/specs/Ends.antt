-- Where the last end line of each block's name stands.
use Rattle.std.specs.Prelude.{◌≡◌, ℕ, suc, Bool, true, false, ◌&&◌, ◌||◌, ◌==◌, nat_lt, if◌then◌else◌, List, [], ◌∷◌, map, bytes_eq}
use Rattle.std.specs.List.{list_any}
use Rattle.std.specs.Option.{unwrap_or}
use Rattle.std.specs.Map.{lookup}
use Rattle.std.specs.Char.{to_ascii_lowercase}
use Rattle.std.specs.Cow.{cow_slice_items}
use Rattle.org_class.specs.Blocks.{ends_block}
use Rattle.org_lines.specs.declared.lines.Line.{Line}

-- a mark goes on after `#`: with a plus, or with what isn't seen
abbrev pub completes_mark : List ℕ → Bool
completes_mark [] = true
completes_mark (b ∷ bs) = b == 43

-- `#+` stands in the bytes, or `#` at their end
abbrev pub has_mark : List ℕ → Bool
has_mark [] = false
has_mark (b ∷ bs) = ((b == 35) && completes_mark bs) || has_mark bs

-- the number of the last element that passes the test, from 1; 0 where none does
abbrev pub last_where : {X : Type 0} → (X → Bool) → List X → ℕ
last_where test [] = 0
last_where test (x ∷ xs) = let n = last_where test xs in if n == 0 then (if test x then 1 else 0) else suc n

-- a number for each of some names, in small letters
abbrev pub Places : Type 0
Places = List (List ℕ × ℕ)

-- the number of a name, 0 where it has none
abbrev pub place_of : Places → List ℕ → ℕ
place_of places name = unwrap_or (lookup (bytes_eq (map to_ascii_lowercase name)) places) 0

-- each name's number is that of its last end line among the lines
abbrev pub AreLastEnds : Places → List (List ℕ) → Type 0
AreLastEnds places ls = (name : List ℕ) → place_of places name ≡ last_where (ends_block name) ls

-- after so many lines, a name's end line stands among the lines left just where its number is greater
abbrev pub KnowsEnds : Places → ℕ → List (List ℕ) → Type 0
KnowsEnds places number ls = (name : List ℕ) → nat_lt number (place_of places name) ≡ list_any (ends_block name) ls

-- the names that pass a test have this number, and all others what they had
abbrev pub IsRenumbered : Places → Places → (List ℕ → Bool) → ℕ → Type 0
IsRenumbered old new test number = (name : List ℕ) → place_of new name ≡ if test name then number else place_of old name

-- a line ends the blocks of a name
abbrev pub is_ended_by : Line → List ℕ → Bool
is_ended_by line name = ends_block name (cow_slice_items line.bytes)
