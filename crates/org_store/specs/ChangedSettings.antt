-- What becomes of a file's settings when its text changes.
use Rattle.std.specs.Prelude.{◌≡◌, ℕ, List, Option, Some, None}
use Rattle.std.specs.declared.alloc.Global.{Global}
use Rattle.std.specs.declared.rc.Rc.{Rc}
use Rattle.org_store.specs.Outline.{file_settings}
use Rattle.org_settings.specs.declared.settings.Settings.{Settings}

-- none where they are the same; else those of the new text
abbrev pub AreNewSettings : List ℕ → List ℕ → Option (Rc Settings Global) → Type 0
AreNewSettings old new None = file_settings new ≡ file_settings old
AreNewSettings old new (Some s) = s.value ≡ file_settings new
