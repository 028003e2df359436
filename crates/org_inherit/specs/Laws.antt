-- Laws of inheritance (Org manual 9.6, "Tag Inheritance"; "Property Inheritance"; "Internal Archiving").
use Rattle.std.specs.Prelude.{◌≡◌, ◌↔◌, ◌||◌, ℕ, ◌+◌, ◌<◌, Bool, true, List, ◌∷◌, ◌++◌, Some, length, reverse, slice_get, bytes_eq}
use Rattle.std.specs.List.{list_any, flat_map, position_or_len}
use Rattle.org_entry.specs.declared.entry.Entry.{Entry}
use Rattle.org_inherit.specs.Hidden.{is_hidden}
use Rattle.org_inherit.specs.Scope.{Scope}
use Rattle.org_inherit.specs.Tags.{own_tags_at, all_tags, lineage}
use Rattle.org_inherit.specs.Values.{nearest_value}
use Rattle.org_outline.specs.Laws.{BeginsTree, is_above}
use Rattle.org_outline.specs.Levels.{levels}
use Rattle.org_outline.specs.Tree.{ancestors}

-- what has a hidden ancestor is hidden
abbrev pub HiddenIsInherited : Type 0
HiddenIsInherited = (es : List Entry) (i j : ℕ) → is_above (levels es) j i ≡ true → is_hidden es j ≡ true → is_hidden es i ≡ true

-- the entry at a place names the tag
abbrev pub names_tag : List Entry → List ℕ → ℕ → Bool
names_tag es tag j = list_any (bytes_eq tag) (own_tags_at es j)

-- the tags of an entry are those of the file, its own and those of its ancestors
abbrev pub TagsAreInherited : Type 0
TagsAreInherited = (scope : Scope) (i : ℕ) (tag : List ℕ) → list_any (bytes_eq tag) (all_tags scope i)
    ≡ (list_any (bytes_eq tag) scope.settings.file_tags || list_any (names_tag scope.entries tag) (i ∷ ancestors (levels scope.entries) i))

-- no tag stands twice among all tags
abbrev pub TagsAreOnce : Type 0
TagsAreOnce = (scope : Scope) (i j k : ℕ) (tag : List ℕ) →
    slice_get (all_tags scope i) j ≡ Some tag → slice_get (all_tags scope i) k ≡ Some tag → j ≡ k

-- the tags of the file, those of the ancestors from the outermost, and the own ones, each as often as it is named
abbrev pub tags_named : Scope → ℕ → List (List ℕ)
tags_named scope i =
    scope.settings.file_tags
    ++ (flat_map (own_tags_at scope.entries) (reverse (ancestors (levels scope.entries) i)) ++ own_tags_at scope.entries i)

-- where a tag is named first, among tags as they are named
abbrev pub first_place : List ℕ → List (List ℕ) → ℕ
first_place tag tags = position_or_len (bytes_eq tag) tags

-- one tag stands before another exactly where it is named first before the other is
abbrev pub TagsKeepTheirOrder : Type 0
TagsKeepTheirOrder = (scope : Scope) (i j k : ℕ) (a b : List ℕ) →
    slice_get (all_tags scope i) j ≡ Some a → slice_get (all_tags scope i) k ≡ Some b →
    (j < k) ↔ (first_place a (tags_named scope i) < first_place b (tags_named scope i))

-- over two entries the same stands: what hides them, the tags along their lineage, and the nearest values
pub record InheritSame (es fs : List Entry) (i j : ℕ) : Type 0 where
  pub hidden : is_hidden es i ≡ is_hidden fs j
  pub tags : flat_map (own_tags_at es) (lineage es i) ≡ flat_map (own_tags_at fs) (lineage fs j)
  pub values : (name : List ℕ) → nearest_value es name i ≡ nearest_value fs name j

-- what stands before a tree has no say in what its entries inherit
abbrev pub TreesInheritAlone : Type 0
TreesInheritAlone = (xs ys : List Entry) (k : ℕ) → BeginsTree (levels xs) (levels ys) → k < length ys → InheritSame (xs ++ ys) ys (length xs + k) k

-- what stands after an entry has no say in what it inherits
abbrev pub LaterSaysNothing : Type 0
LaterSaysNothing = (xs ys : List Entry) (k : ℕ) → k < length xs → InheritSame (xs ++ ys) xs k k
