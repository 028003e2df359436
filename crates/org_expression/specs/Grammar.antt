-- The grammar of match expressions, as the spelling of a tree (Org manual 9.6, "Matching tags and properties"; limits
-- of numbers: profile).
-- Characters by their codes: 33 !, 34 ", 38 &, 43 +, 45 -, 46 ., 47 /, 60 <, 61 =, 62 >, 92 \, 123 {, 124 |, 125 }.
use Rattle.std.specs.Prelude.{◌≡◌, ◌≢◌, ℕ, ◌<◌, ◌≤◌, Bool, true, false, ◌||◌, not, ◌==◌, List, [], ◌∷◌, ◌++◌, length, if◌then◌else◌, encode_utf8_all}
use Rattle.std.specs.Char.{is_ascii_digit}
use Rattle.std.specs.List.{list_all}
use Rattle.org_base.specs.Characters.{is_tag_char}
use Rattle.org_expression.specs.declared.state.Part.{Part}
use Rattle.org_expression.specs.declared.state.Part.TheVariants.{InTags, InTodo}

-- what joins a term to the one before it: its sign alone, `&` or `|`
pub data Link : Type 0 where
  Direct : Link
  And : Link
  Or : Link

-- what stands before a term
pub data Sign : Type 0 where
  Unsigned : Sign
  Plus : Sign
  Minus : Sign

-- <, =, >, <=, >= and <>
pub data Op : Type 0 where
  Less : Op
  Equal : Op
  Greater : Op
  AtMost : Op
  AtLeast : Op
  Differs : Op

-- a number as its digits before and after the point, a quoted text, a pattern in braces
pub data Value : Type 0 where
  Number : Bool → List ℕ → List ℕ → Value
  Quoted : List ℕ → Value
  Pattern : List ℕ → Value

-- a tag, a pattern that is found in some tag, a comparison of a named value
pub data Term : Type 0 where
  Tag : List ℕ → Term
  Found : List ℕ → Term
  Compare : List ℕ → Op → Value → Term

-- a term with what stands before it
pub data Item : Type 0 where
  item : Link → Sign → Term → Item

-- `tags`, `[tags] "/" todo` and `[tags] "/!" [todo]`; an empty list stands for a part that is left out
pub data Expr : Type 0 where
  Tags : List Item → Expr
  Todo : List Item → List Item → Expr
  Open : List Item → List Item → Expr

-- ---- spelling, in characters

-- nothing, `&` or `|`
abbrev pub spell_link : Link → List ℕ
spell_link Direct = []
spell_link And = 38 ∷ []
spell_link Or = 124 ∷ []

-- nothing, `+` or `-`
abbrev pub spell_sign : Sign → List ℕ
spell_sign Unsigned = []
spell_sign Plus = 43 ∷ []
spell_sign Minus = 45 ∷ []

-- `<`, `=`, `>`, `<=`, `>=` and `<>`
abbrev pub spell_op : Op → List ℕ
spell_op Less = 60 ∷ []
spell_op Equal = 61 ∷ []
spell_op Greater = 62 ∷ []
spell_op AtMost = 60 ∷ 61 ∷ []
spell_op AtLeast = 62 ∷ 61 ∷ []
spell_op Differs = 60 ∷ 62 ∷ []

-- a minus in a name has a backslash before it
abbrev pub spell_name : List ℕ → List ℕ
spell_name [] = []
spell_name (c ∷ cs) = if c == 45 then 92 ∷ 45 ∷ spell_name cs else c ∷ spell_name cs

-- digits after a point, if there are any
abbrev pub spell_fraction : List ℕ → List ℕ
spell_fraction [] = []
spell_fraction (d ∷ ds) = 46 ∷ d ∷ ds

-- a decimal with its minus, a text in double quotes, a pattern in braces
abbrev pub spell_value : Value → List ℕ
spell_value (Number is_negative whole fraction) = (if is_negative then 45 ∷ [] else []) ++ (whole ++ spell_fraction fraction)
spell_value (Quoted text) = 34 ∷ text ++ 34 ∷ []
spell_value (Pattern text) = 123 ∷ text ++ 125 ∷ []

-- a name, a pattern of a tag in braces, or a property compared with a value
abbrev pub spell_term : Term → List ℕ
spell_term (Tag name) = spell_name name
spell_term (Found pattern) = 123 ∷ pattern ++ 125 ∷ []
spell_term (Compare name op value) = spell_name name ++ (spell_op op ++ spell_value value)

-- link, sign and term, one after the other
abbrev pub spell_item : Item → List ℕ
spell_item (item link sign term) = spell_link link ++ (spell_sign sign ++ spell_term term)

-- items, one after the other
abbrev pub spell_items : List Item → List ℕ
spell_items [] = []
spell_items (i ∷ is) = spell_item i ++ spell_items is

-- the tags alone, or with `/` or `/!` and the keywords after them
abbrev pub spell : Expr → List ℕ
spell (Tags tags) = spell_items tags
spell (Todo tags todo) = spell_items tags ++ 47 ∷ spell_items todo
spell (Open tags todo) = spell_items tags ++ 47 ∷ 33 ∷ spell_items todo

-- ---- which trees are expressions

-- a name of the grammar: not empty, and of characters that names may hold
abbrev pub IsName : List ℕ → Type 0
IsName name = (name ≢ []) × (list_all (λ c. is_tag_char c || c == 45) name ≡ true)

-- the character doesn't stand in the text
abbrev pub Lacks : ℕ → List ℕ → Type 0
Lacks c cs = list_all (λ x. not (x == c)) cs ≡ true

-- only `=` and `<>` take a pattern
abbrev pub takes_pattern : Op → Bool
takes_pattern Equal = true
takes_pattern Differs = true
takes_pattern _ = false

-- one to eighteen digits, and up to nine after a point; no quote in a text, no closing brace in a pattern
abbrev pub IsValue : Op → Value → Type 0
IsValue op (Number is_negative whole fraction) =
    (0 < length whole) × (length whole ≤ 18) × (list_all is_ascii_digit whole ≡ true) × (length fraction ≤ 9) × (list_all is_ascii_digit fraction ≡ true)
IsValue op (Quoted text) = Lacks 34 text
IsValue op (Pattern text) = (takes_pattern op ≡ true) × Lacks 125 text

-- a name or a pattern, or a name with a value that its comparison takes
abbrev pub IsTerm : Term → Type 0
IsTerm (Tag name) = IsName name
IsTerm (Found pattern) = Lacks 125 pattern
IsTerm (Compare name op value) = IsName name × IsValue op value

-- before the slash any term may stand, after it a name alone
abbrev pub IsTermIn : Part → Term → Type 0
IsTermIn InTags term = IsTerm term
IsTermIn InTodo (Tag name) = IsName name
IsTermIn InTodo _ = ⊥

-- a sign or a link parts a term from the one before it
abbrev pub IsLink : Link → Sign → Type 0
IsLink Direct sign = sign ≢ Unsigned
IsLink _ sign = Unit {0}

-- terms after the first, each with a sign or a link before it
abbrev pub AreLater : Part → List Item → Type 0
AreLater part [] = Unit {0}
AreLater part (item link sign term ∷ is) = IsLink link sign × IsTermIn part term × AreLater part is

-- one term or more; before the first stands no & or |
abbrev pub AreItems : Part → List Item → Type 0
AreItems part (item Direct sign term ∷ is) = IsTermIn part term × AreLater part is
AreItems part _ = ⊥

-- items, or none
abbrev pub AreItemsOrNone : Part → List Item → Type 0
AreItemsOrNone part [] = Unit {0}
AreItemsOrNone part (i ∷ is) = AreItems part (i ∷ is)

-- the tree is one of the grammar: a part may be left out before a slash, and after `/!`
abbrev pub IsExpr : Expr → Type 0
IsExpr (Tags tags) = AreItems InTags tags
IsExpr (Todo tags todo) = AreItemsOrNone InTags tags × AreItems InTodo todo
IsExpr (Open tags todo) = AreItemsOrNone InTags tags × AreItemsOrNone InTodo todo

-- ---- what the reader says of a text

-- the expression is one of the grammar, and is spelled by these characters
pub record Reads (cs : List ℕ) (e : Expr) : Type 0 where
  pub is_expr : IsExpr e
  pub spelled : spell e ≡ cs

-- some expression begins with these characters
abbrev pub Begins : List ℕ → Type 0
Begins cs = (rest : List ℕ) × (e : Expr) × Reads (cs ++ rest) e

-- The byte length of the longest front of the characters that begins some expression.
pub record IsLongestFront (cs : List ℕ) (at : ℕ) : Type 0 where
  pub front : List ℕ
  pub rest : List ℕ
  pub whole : cs ≡ front ++ rest
  pub len : at ≡ length (encode_utf8_all front)
  pub begins : Begins front
  pub longest : (c : ℕ) (more : List ℕ) → rest ≡ c ∷ more → ¬ Begins (front ++ c ∷ [])
