-- What is kept beside an outline (profile).
use Rattle.std.specs.Prelude.{◌≡◌, ℕ, Bool, false, nat_lt, Option, None, Some, List, ◌∷◌, length, map, get_or, codes, IfSome}
use Rattle.std.specs.List.{list_any, range_with_len}
use Rattle.std.specs.Option.{is_some}
use Rattle.org_base.specs.Properties.{value_in}
use Rattle.org_entry.specs.declared.entry.Entry.{Entry}
use Rattle.org_inherit.specs.Category.{category_under, file_category, first_categories}
use Rattle.org_inherit.specs.Hidden.{hides}
use Rattle.org_inherit.specs.Scope.{Scope}
use Rattle.org_inherit.specs.Tags.{own_tags}
use Rattle.org_inherit.specs.declared.ancestors.Test.{Test}
use Rattle.org_inherit.specs.declared.ancestors.Test.TheVariants.{Hides, HasTags}
use Rattle.org_inherit.specs.declared.tables.Tables.{Tables}
use Rattle.org_outline.specs.Levels.{levels}
use Rattle.org_outline.specs.Tree.{ancestors}

-- an entry has own tags
abbrev pub has_tags : Entry → Bool
has_tags e = nat_lt 0 (length (own_tags e))

-- an entry has its own category
abbrev pub has_category : Entry → Bool
has_category e = is_some (value_in e.details.drawer (codes "CATEGORY"))

-- one of the entries has its own category
abbrev pub has_categories : List Entry → Bool
has_categories es = list_any has_category es

-- an entry passes a test by itself
abbrev pub passes : Test → Entry → Bool
passes Hides e = hides e
passes HasTags e = has_tags e

-- the entry at a place or an ancestor of it passes the test
abbrev pub one_passes : (Entry → Bool) → List Entry → ℕ → Bool
one_passes test es i = list_any (λ j. get_or (map test es) j false) (i ∷ ancestors (levels es) i)

-- the same of all entries, by their places
abbrev pub all_passing : (Entry → Bool) → List Entry → List Bool
all_passing test es = map (one_passes test es) (range_with_len 0 (length es))

-- the categories of all entries, or nothing where all have the file's
abbrev pub AreCategories : List Entry → List ℕ → Option (List (List ℕ)) → Type 0
AreCategories es file None = (i : ℕ) → category_under es file i ≡ file
AreCategories es file (Some categories) = categories ≡ first_categories es file (length es)

-- the tables of these entries, in a file with this category: of each whether it is hidden and whether it has tags, own or
-- inherited, and the categories
pub record AreTables (es : List Entry) (file : List ℕ) (tables : Tables) : Type 0 where
  pub hidden_are : tables.flags.hidden.items ≡ all_passing hides es
  pub tagged_are : tables.flags.tagged.items ≡ all_passing has_tags es
  pub categories_are : AreCategories es file tables.categories

-- what is kept: the file's category, and the tables where there are any
pub record HasTables (scope : Scope) (file : List ℕ) (tables : Option Tables) : Type 0 where
  pub file_is : file ≡ file_category scope
  pub tables_are : IfSome tables (AreTables scope.entries file)
