-- What a file says: its settings and its entries (Org Syntax, "Headings and Sections").
use Rattle.std.specs.Prelude.{ℕ, List}
pub use Rattle.org_stamp_index.specs.Held.{OutlineView, scope_in}
use Rattle.org_class.specs.Classes.{setting_lines}
use Rattle.org_entry.specs.Entry.{entries_of}
use Rattle.org_entry.specs.declared.entry.Entry.{Entry}
use Rattle.org_inherit.specs.Scope.{Scope}
use Rattle.org_settings.specs.Settings.{FileSettings, settings_of}

-- the settings of a file, wherever its setting lines stand
abbrev pub file_settings : List ℕ → FileSettings
file_settings text = settings_of (setting_lines text)

-- the entries of a file, read by its own settings
abbrev pub file_entries : List ℕ → List Entry
file_entries text = entries_of (file_settings text) text

-- what the text of a file says: its entries and its settings
abbrev pub outline_of : List ℕ → OutlineView
outline_of text = record { entries = file_entries text; settings = file_settings text }

-- what inheritance looks at in a file: what its text says, its name, and the inherited names
abbrev pub scope_of : List (List ℕ) → List ℕ → List ℕ → Scope
scope_of inherited name text = scope_in (outline_of text) name inherited
