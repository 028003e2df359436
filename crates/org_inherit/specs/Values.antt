-- The value of a name that isn't special (Org manual 9.6, "Property Inheritance"; that a file's value is inherited as
-- an ancestor's is: profile).
use Rattle.std.specs.Prelude.{ℕ, Bool, if◌then◌else◌, Option, None, List, [], ◌∷◌, map, get_or}
use Rattle.std.specs.List.{list_any}
use Rattle.std.specs.Option.{option_or, option_map_or}
use Rattle.org_base.specs.Properties.{value_in}
use Rattle.org_base.specs.Words.{same_word}
use Rattle.org_entry.specs.declared.entry.Entry.{Entry}
use Rattle.org_inherit.specs.Scope.{Scope}
use Rattle.org_outline.specs.Levels.{levels}
use Rattle.org_outline.specs.Tree.{ancestors}
use Rattle.org_settings.specs.Settings.{FileSettings}

-- what the first of the places has that has anything
abbrev pub first_of : {X : Type 0} → (ℕ → Option X) → List ℕ → Option X
first_of f [] = None
first_of f (j ∷ js) = option_or (f j) (first_of f js)

-- the own value of the entry at a place
abbrev pub own_value : List Entry → List ℕ → ℕ → Option (List ℕ)
own_value es name j = get_or (map (λ e. value_in e.details.drawer name) es) j None

-- the own value, else that of the nearest ancestor that has one
abbrev pub nearest_value : List Entry → List ℕ → ℕ → Option (List ℕ)
nearest_value es name i = first_of (own_value es name) (i ∷ ancestors (levels es) i)

-- what the drawer of the lines before the first heading gives; one under a heading gives nothing
abbrev pub front_value : List Entry → List ℕ → Option (List ℕ)
front_value [] name = None
front_value (e ∷ es) name = option_map_or (λ head. None) e.head (value_in e.details.drawer name)

-- what a file gives: the drawer of the lines before the first heading, else its settings
abbrev pub value_of_file : List Entry → FileSettings → List ℕ → Option (List ℕ)
value_of_file es settings name = option_or (front_value es name) (value_in settings.properties name)

-- the value that the file itself gives a name: the drawer of the lines before the first heading, else its settings
abbrev pub file_value : Scope → List ℕ → Option (List ℕ)
file_value scope name = option_or (front_value scope.entries name) (value_in scope.settings.properties name)

-- the name is among those whose values are inherited
abbrev pub is_inherited : List (List ℕ) → List ℕ → Bool
is_inherited names name = list_any (same_word name) names

-- the value of a name that isn't special. The own one; else, if the name is one of the inherited, that of the nearest ancestor that
-- has one, else the file's
abbrev pub plain_value : Scope → ℕ → List ℕ → Option (List ℕ)
plain_value scope i name =
    if list_any (same_word name) scope.inherited then option_or (nearest_value scope.entries name i) (file_value scope name)
    else own_value scope.entries name i
