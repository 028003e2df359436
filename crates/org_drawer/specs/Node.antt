-- The node lines of a property drawer (Org Syntax, "Node Properties"; that a name may hold any byte of a word, and what
-- a line that is none gives: profile).
-- Characters by their codes: 43 +, 58 :.
use Rattle.std.specs.Prelude.{ℕ, ◌-◌, Bool, true, false, ◌&&◌, not, ◌==◌, nat_lt, nat_le, if◌then◌else◌, List, [], ◌∷◌, ◌++◌, length, take, drop, slice_index, Option, Some, None}
use Rattle.std.specs.List.{filter_map}
use Rattle.std.specs.Option.{option_to_list}
use Rattle.org_base.specs.Properties.{Given, Property, with_all, given_as}
use Rattle.org_base.specs.Words.{trim_start, trimmed, first_word}
use Rattle.org_drawer.specs.declared.node.Node.{Node}

-- a plus stands before the last byte of the word
abbrev pub has_plus : List ℕ → Bool
has_plus w = slice_index w (length w - 2) == 43

-- the length of NAME in :NAME: and in :NAME+:
abbrev pub name_len : List ℕ → ℕ
name_len w = if has_plus w then length w - 3 else length w - 2

-- :NAME: or :NAME+:, where NAME isn't empty and doesn't end in +
abbrev pub is_node_word : List ℕ → Bool
is_node_word w =
    let n = length w in
    let name = name_len w in
    nat_le 3 n && (slice_index w 0 == 58) && (slice_index w (n - 1) == 58) && nat_lt 0 name && not (slice_index w name == 43)

-- the line's first word is :NAME: or :NAME+:
abbrev pub is_node : List ℕ → Bool
is_node line = is_node_word (first_word line)

-- what a first word and the line from it on give: the name, whether the value is appended, and the trimmed rest as value
abbrev pub given : List ℕ → List ℕ → Given
given w rest = record { name = take (name_len w) (drop 1 w); appends = has_plus w; value = trimmed (drop (length w) rest) }

-- the property that a line gives, if it is a node line
abbrev pub given_of : List ℕ → Option Given
given_of line = if is_node line then Some (given (first_word line) (trim_start line)) else None

-- what a node line that was read gives
abbrev pub given_by : Node → Given
given_by node = given_as node.name.now node.appends node.value.now

-- properties with what a line gives, if it is a node line
abbrev pub with_line : List Property → List ℕ → List Property
with_line ps line = with_all ps (option_to_list (given_of line))

-- the properties that the node lines among lines give
abbrev pub drawer_of : List (List ℕ) → List Property
drawer_of lines = with_all [] (filter_map given_of lines)

-- a name that node lines may have: it isn't empty and doesn't end in +
abbrev pub is_name : List ℕ → Bool
is_name name = nat_lt 0 (length name) && not (slice_index name (length name - 1) == 43)

-- the word that gives a name: :NAME:, or :NAME+: where its value is appended
abbrev pub node_word : List ℕ → Bool → List ℕ
node_word name true = 58 ∷ (name ++ 43 ∷ 58 ∷ [])
node_word name false = 58 ∷ (name ++ 58 ∷ [])
