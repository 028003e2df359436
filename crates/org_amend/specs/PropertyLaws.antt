-- Laws of the property drawer under a heading (Org manual 9.6, "Property Syntax").
use Rattle.std.specs.Prelude.{◌≡◌, ◌⊎◌, ℕ, true, false, not, List, [], ◌∷◌, ◌++◌, codes, length, Option, Some, None}
use Rattle.std.specs.List.{concat, filter, list_all, list_any}
use Rattle.org_amend.specs.DrawerPuts.{Put, changed_drawer, value_by}
use Rattle.org_amend.specs.PropertyChanges.{gives, gives_value}
use Rattle.org_amend.specs.declared.property_change.PropertyChange.{PropertyChange}
use Rattle.org_class.specs.Drawers.{is_drawer_end, is_drawer_open}
use Rattle.org_drawer.specs.Node.{is_node}

-- lines are a property drawer with these node lines, none of which ends it
pub record IsDrawer (drawer nodes : List (List ℕ)) : Type 0 where
  pub first : List ℕ
  pub last : List ℕ
  pub drawer_is : drawer ≡ first ∷ (nodes ++ last ∷ [])
  pub opens : is_drawer_open first ≡ true
  pub are_nodes : list_all is_node nodes ≡ true
  pub none_ends : list_any is_drawer_end nodes ≡ false
  pub ends : is_drawer_end last ≡ true

-- the same, or neither drawer nor node lines
abbrev pub IsDrawerOrNone : List (List ℕ) → List (List ℕ) → Type 0
IsDrawerOrNone drawer nodes = ((drawer ≡ []) × (nodes ≡ [])) ⊎ IsDrawer drawer nodes

-- of node lines those that give a name, and those that don't

abbrev pub given_by : List ℕ → List (List ℕ) → List (List ℕ)
given_by name nodes = filter (gives name) nodes

abbrev pub others_of : List ℕ → List (List ℕ) → List (List ℕ)
others_of name nodes = filter (λ l. not (gives name l)) nodes

-- one node line alone gives a name, and gives it just this value; without a value none gives the name
abbrev pub SaysAlone : List ℕ → Option (List ℕ) → List (List ℕ) → Type 0
SaysAlone name None nodes = given_by name nodes ≡ []
SaysAlone name (Some value) nodes = (node : List ℕ) × (given_by name nodes ≡ node ∷ []) × (gives_value value node ≡ true)

-- nothing, or a line feed
abbrev pub IsGapOrNone : List ℕ → Type 0
IsGapOrNone gap = (gap ≡ []) ⊎ (gap ≡ 10 ∷ [])

-- what is put below a heading: a drawer in the place of the one that stands there, where either may be none. In it one line alone
-- gives the property, and gives its value, or none gives it; all other node lines stay, in their order
pub record IsGiven (name : List ℕ) (value : Option (List ℕ)) (below : List ℕ) (put : Put) : Type 0 where
  pub old : List (List ℕ)
  pub old_nodes : List (List ℕ)
  pub gap : List ℕ
  pub new : List (List ℕ)
  pub new_nodes : List (List ℕ)
  pub rest : List ℕ
  pub below_is : below ≡ concat old ++ rest
  pub deleted_is : put.deleted ≡ length (concat old)
  pub inserted_is : put.inserted ≡ gap ++ concat new
  pub gap_is : IsGapOrNone gap
  pub was : IsDrawerOrNone old old_nodes
  pub is : IsDrawerOrNone new new_nodes
  pub says : SaysAlone name value new_nodes
  pub others : others_of name new_nodes ≡ others_of name old_nodes

-- what ends a line, or nothing
abbrev pub IsBreak : List ℕ → Type 0
IsBreak end = (end ≡ []) ⊎ ((end ≡ codes "\n") ⊎ (end ≡ codes "\r\n"))

-- a drawer that is changed says what is asked for
abbrev pub PropertiesAreGiven : Type 0
PropertiesAreGiven = (change : PropertyChange) (below end : List ℕ) (put : Put) → IsBreak end → changed_drawer change below end ≡ Some put → IsGiven change.name.now (value_by change) below put
