-- What an outline with dated stamps holds.
use Rattle.std.specs.Prelude.{ℕ, List, Option, Some, None}
use Rattle.std.specs.declared.alloc.Global.{Global}
use Rattle.std.specs.declared.rc.Rc.{Rc}
use Rattle.org_entry.specs.declared.entry.Entry.{Entry}
use Rattle.org_inherit.specs.Scope.{Scope}
use Rattle.org_settings.specs.Settings.{FileSettings}
use Rattle.org_stamp_index.specs.Index.{IsIndexOf}
use Rattle.org_stamp_index.specs.declared.index.StampIndex.{StampIndex}

-- what the text of a file says: its entries and its settings
pub record OutlineView : Type 0 where
  pub entries : List Entry
  pub settings : FileSettings

-- the indexes, if they are kept, have the stamps of the entries, read by their settings
abbrev pub KeepsIndexOf : List Entry → Option (Rc StampIndex Global) → Type 0
KeepsIndexOf es None = Unit {0}
KeepsIndexOf es (Some x) = IsIndexOf x.value.settings.value es x.value

-- what inheritance looks at in a file: what its text says, its name, and the inherited names
abbrev pub scope_in : OutlineView → List ℕ → List (List ℕ) → Scope
scope_in d name inherited = record { entries = d.entries; settings = d.settings; file = name; inherited = inherited }
