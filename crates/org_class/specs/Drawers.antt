-- Property drawers (Org Syntax, "Property Drawers"; "Node Properties").
use Rattle.std.specs.Prelude.{◌≡◌, ℕ, Bool, false, true, ◌&&◌, ◌||◌, if◌then◌else◌, List, [], ◌∷◌, ◌++◌, codes, None}
use Rattle.std.specs.List.{list_all, list_any}
use Rattle.org_base.specs.Words.{trimmed, same_word}
use Rattle.org_drawer.specs.Node.{is_node}
use Rattle.org_class.specs.Blocks.{body_classes}
use Rattle.org_class.specs.declared.class.Class.{Class}
use Rattle.org_class.specs.declared.class.Class.TheVariants.{DrawerOpen, Node, DrawerEnd}

-- `:PROPERTIES:` alone in its line, in any case
abbrev pub is_drawer_open : List ℕ → Bool
is_drawer_open l = same_word (trimmed l) (codes ":PROPERTIES:")

-- `:END:` alone in its line, in any case
abbrev pub is_drawer_end : List ℕ → Bool
is_drawer_end l = same_word (trimmed l) (codes ":END:")

-- node lines, none or more, and then the end of the drawer stand at the front
abbrev pub closes_drawer : List (List ℕ) → Bool
closes_drawer [] = false
closes_drawer (l ∷ ls) = is_drawer_end l || (is_node l && closes_drawer ls)

-- the classes of the lines after the opening line of a drawer
abbrev pub drawer_classes : List (List ℕ) → List Class
drawer_classes [] = []
drawer_classes (l ∷ ls) = if is_drawer_end l then DrawerEnd ∷ body_classes None ls else Node ∷ drawer_classes ls

-- the classes of the lines after the heading and its planning line: a drawer may stand at the front
abbrev pub classes_below : List (List ℕ) → List Class
classes_below [] = []
classes_below (l ∷ ls) = if is_drawer_open l && closes_drawer ls then DrawerOpen ∷ drawer_classes ls else body_classes None (l ∷ ls)

-- a drawer at the front: its opening line, node lines of which none is its end, its end, and other lines
pub record HasDrawer (ls nodes rest : List (List ℕ)) : Type 0 where
  pub first : List ℕ
  pub last : List ℕ
  pub spelled : ls ≡ first ∷ (nodes ++ last ∷ rest)
  pub opens : is_drawer_open first ≡ true
  pub are_nodes : list_all is_node nodes ≡ true
  pub none_ends : list_any is_drawer_end nodes ≡ false
  pub ends : is_drawer_end last ≡ true
