-- Worked examples: what the definitions say of inputs at which a wrong rule says something else.
use Rattle.std.specs.Prelude.{◌≡◌, ℕ, true, false, List, [], ◌∷◌, Some, codes}
use Rattle.org_entry.specs.Entry.{entries_of}
use Rattle.org_inherit.specs.Category.{category}
use Rattle.org_inherit.specs.Hidden.{is_archive}
use Rattle.org_inherit.specs.Scope.{Scope, scope_with}
use Rattle.org_inherit.specs.Values.{file_value}
use Rattle.org_settings.specs.Settings.{FileSettings, settings_of}

-- a file of this text with these settings
abbrev pub scope_of : FileSettings → List ℕ → Scope
scope_of settings text = scope_with (entries_of settings text) settings (codes "notes.org") []

-- a file whose drawer names a category, with a heading that names its own and one that doesn't
abbrev pub two_categories : Scope
two_categories = scope_of (settings_of [])
    (codes ":PROPERTIES:\n:CATEGORY: file\n:END:\n* A\n:PROPERTIES:\n:CATEGORY: own\n:END:\n* B\n")

-- a file that names an owner in its drawer and another on a setting line
abbrev pub two_owners : Scope
two_owners = scope_of (settings_of (codes "#+PROPERTY: Owner Ben\n" ∷ [])) (codes ":PROPERTIES:\n:Owner: Ann\n:END:\n#+PROPERTY: Owner Ben\n")

-- the tag that hides is ARCHIVE in capitals; a heading's category comes before the file's, and the file's drawer before its
-- setting lines (Org manual 9.6, "Internal Archiving"; "Categories"; "Property Syntax"; profile)
pub record ExamplesHold : Type 0 where
  pub capitals : is_archive (codes "ARCHIVE") ≡ true
  pub small_letters : is_archive (codes "archive") ≡ false
  pub own_category : category two_categories 1 ≡ codes "own"
  pub category_of_the_file : category two_categories 2 ≡ codes "file"
  pub drawer_first : file_value two_owners (codes "OWNER") ≡ Some (codes "Ann")
