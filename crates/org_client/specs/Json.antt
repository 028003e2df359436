-- JSON in one line, and fields between commas (RFC 8259, "Strings"; Org manual 9.6, "Extracting Agenda Information").
use Rattle.std.specs.Prelude.{ℕ, ◌==◌, Bool, false, if◌then◌else◌, List, [], ◌∷◌, ◌++◌, codes, decimal, drop, map, nat_lt}
use Rattle.org_visible.specs.Visible.{visible}
use Rattle.org_visible.specs.declared.visible.Escape.TheVariants.{Caret, Field, Json}

-- a text as a string
abbrev pub quoted : List ℕ → List ℕ
quoted text = 34 ∷ visible Json text ++ 34 ∷ []

-- a comma, a name and a colon
abbrev pub named : List ℕ → List ℕ
named name = 44 ∷ quoted name ++ 58 ∷ []

-- members of an object
abbrev pub text_member : List ℕ → List ℕ → List ℕ
text_member name text = named name ++ quoted text

abbrev pub number_member : List ℕ → ℕ → List ℕ
number_member name number = named name ++ decimal number

abbrev pub flag_text : Bool → List ℕ
flag_text flag = if flag then codes "true" else codes "false"

abbrev pub flag_member : List ℕ → Bool → List ℕ
flag_member name flag = named name ++ flag_text flag

-- items with a byte between them

abbrev pub items_behind : ℕ → List (List ℕ) → List ℕ
items_behind between [] = []
items_behind between (item ∷ items) = between ∷ item ++ items_behind between items

abbrev pub items_with : ℕ → List (List ℕ) → List ℕ
items_with between [] = []
items_with between (item ∷ items) = item ++ items_behind between items

-- what stands before the item at a place
abbrev pub separator : ℕ → ℕ → List ℕ
separator place between = if nat_lt 0 place then between ∷ [] else []

-- texts as a person is told them, with a byte between them
abbrev pub joined : ℕ → List (List ℕ) → List ℕ
joined between texts = items_with between (map (visible Caret) texts)

-- members whose value is a list of texts, or an object of them

abbrev pub texts_member : List ℕ → List (List ℕ) → List ℕ
texts_member name texts = named name ++ codes "[" ++ items_with 44 (map quoted texts) ++ codes "]"

abbrev pub pair_text : List ℕ × List ℕ → List ℕ
pair_text pair = quoted pair.0 ++ codes ":" ++ quoted pair.1

abbrev pub object_of : List ℕ → List ℕ → List ℕ
object_of name pairs = named name ++ codes "{" ++ pairs ++ codes "}"

abbrev pub object_member : List ℕ → List (List ℕ × List ℕ) → List ℕ
object_member name pairs = object_of name (items_with 44 (map pair_text pairs))

-- an object begins with the kind of what it is of, and ends with the text of its line

abbrev pub begun : List ℕ → List ℕ
begun kind = codes "{" ++ quoted (codes "kind") ++ codes ":" ++ quoted kind

abbrev pub ended : List ℕ → List ℕ
ended text = text_member (codes "text") text ++ codes "}"

-- a quotation mark stands in front
abbrev pub begins_quoted : List ℕ → Bool
begins_quoted [] = false
begins_quoted (byte ∷ bytes) = byte == 34

-- a text as a field: an apostrophe for a quotation mark in front, since readers take what follows as quoted
abbrev pub field_text : List ℕ → List ℕ
field_text text = if begins_quoted text then 39 ∷ visible Field (drop 1 text) else visible Field text
