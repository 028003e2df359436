-- The property drawer of a heading with another value of a property, or without one (Org manual 9.6, "Property Syntax"; where a
-- line goes, and what goes with it: profile, as Org writes it). What is written is read back.
use Rattle.std.specs.Prelude.{ℕ, ◌-◌, Bool, true, false, ◌&&◌, ◌||◌, not, if◌then◌else◌, List, [], ◌∷◌, ◌++◌, length, take, replicate, Option, Some, None, bytes_eq, codes}
use Rattle.std.specs.List.{prefix_len}
use Rattle.std.specs.Option.{option_map}
use Rattle.org_amend.specs.TagsColumn.{spaces_behind}
use Rattle.org_amend.specs.Tails.{line_tail, tail_len}
use Rattle.org_base.specs.Properties.{Given}
use Rattle.org_base.specs.Words.{first_word, is_space, same_word, trim_start}
use Rattle.org_class.specs.Drawers.{is_drawer_end, is_drawer_open}
use Rattle.org_drawer.specs.Node.{given, is_node}

-- what a node line gives
abbrev pub node_of : List ℕ → Given
node_of line = given (first_word line) (trim_start line)

-- a line gives a name a value, by itself or appended
abbrev pub gives : List ℕ → List ℕ → Bool
gives name line = is_node line && same_word (node_of line).name name

-- a node line gives just this value, and doesn't append it
abbrev pub gives_value : List ℕ → List ℕ → Bool
gives_value value line = not (node_of line).appends && bytes_eq (node_of line).value value

-- a line gives just this value to just this name
abbrev pub is_node_of : List ℕ → List ℕ → List ℕ → Bool
is_node_of name value line = is_node line && (bytes_eq (node_of line).name name && gives_value value line)

-- the property drawer at the front of lines: its opening line, node lines, and its end

abbrev pub nodes_from : List (List ℕ) → Option (List (List ℕ))
nodes_from [] = None
nodes_from (l ∷ ls) = if is_drawer_end l then Some (l ∷ []) else (if is_node l then option_map (λ d. l ∷ d) (nodes_from ls) else None)

abbrev pub drawer_at : List (List ℕ) → Option (List (List ℕ))
drawer_at [] = None
drawer_at (l ∷ ls) = if is_drawer_open l then option_map (λ d. l ∷ d) (nodes_from ls) else None

-- what a line has before its end, and the white space in front of that

abbrev pub before_tail : List ℕ → List ℕ
before_tail line = take (length line - tail_len line) line

abbrev pub indent_before : List ℕ → List ℕ
indent_before line = take (prefix_len is_space (before_tail line)) (before_tail line)

-- a name between colons and a value
abbrev pub pair_of : List ℕ → List ℕ → List ℕ
pair_of name value = (((codes ":" ++ name) ++ codes ":") ++ replicate (spaces_behind name) 32) ++ value

-- the line of a property, as far in as another line and with its end
abbrev pub node_line : List ℕ → List ℕ → List ℕ → List ℕ
node_line name value beside = (indent_before beside ++ pair_of name value) ++ line_tail beside

-- the line, unless it stands there already
abbrev pub unless_put : Bool → List ℕ → List ℕ
unless_put is_put node = if is_put then [] else node

-- the lines of a drawer behind its opening one, with a line in the place of the first one that gives a name, or else before the
-- end, and no other that does
abbrev pub changed_from : List ℕ → List ℕ → Bool → List (List ℕ) → List ℕ
changed_from name node is_put [] = []
changed_from name node is_put (l ∷ ls) =
    if is_drawer_end l then (unless_put is_put node ++ l) ++ changed_from name node true ls
    else (if gives name l then unless_put is_put node ++ changed_from name node true ls else l ++ changed_from name node is_put ls)

abbrev pub changed_nodes : List ℕ → List ℕ → List (List ℕ) → List ℕ
changed_nodes name node [] = []
changed_nodes name node (l ∷ ls) = l ++ changed_from name node false ls

-- the lines of a drawer behind its opening one
abbrev pub behind_opening : List (List ℕ) → List (List ℕ)
behind_opening [] = []
behind_opening (l ∷ ls) = ls

-- the same by the whole drawer
abbrev pub nodes_behind : List ℕ → List ℕ → List (List ℕ) → List ℕ
nodes_behind name node drawer = changed_from name node false (behind_opening drawer)

-- the property goes, and no line of the drawer gives another one
abbrev pub all_give : List ℕ → List (List ℕ) → Bool
all_give name [] = true
all_give name (l ∷ ls) = (is_drawer_end l || gives name l) && all_give name ls

-- a line of a drawer gives a name, and doesn't end it
abbrev pub is_given : List ℕ → List ℕ → Bool
is_given name line = not (is_drawer_end line) && gives name line

-- one of lines alone gives the name, and gives just this value, where none did before
abbrev pub says_once : List ℕ → List ℕ → Bool → List (List ℕ) → Bool
says_once name value is_said [] = is_said
says_once name value is_said (l ∷ ls) =
    if is_given name l then not is_said && (gives_value value l && says_once name value true ls) else says_once name value is_said ls

-- the lines of a drawer with a node line alone, which end so, and the last one so
abbrev pub drawer_of : List ℕ → List ℕ → List ℕ → List ℕ
drawer_of node end last = (((codes ":PROPERTIES:" ++ end) ++ node) ++ codes ":END:") ++ last
