-- What inheritance looks at in one file (Org manual 9.6, "Tag Inheritance"; "Property Inheritance").
use Rattle.std.specs.Prelude.{ℕ, List}
use Rattle.org_settings.specs.Settings.{FileSettings}
use Rattle.org_entry.specs.declared.entry.Entry.{Entry}

-- the entries of a file, its settings, its name, and the names whose values are inherited
pub record Scope : Type 0 where
  pub entries : List Entry
  pub settings : FileSettings
  pub file : List ℕ
  pub inherited : List (List ℕ)

-- the same of these parts
abbrev pub scope_with : List Entry → FileSettings → List ℕ → List (List ℕ) → Scope
scope_with entries settings file inherited = record { entries = entries; settings = settings; file = file; inherited = inherited }
