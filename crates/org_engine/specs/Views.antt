-- Views of a world (Org manual 9.6, "Weekly/daily agenda"; "The Global TODO List"; "Matching tags and properties"; "The
-- clock table").
use Rattle.std.specs.Option.{option_map_or}
use Rattle.std.specs.Prelude.{ℕ, List, Bool, true, if◌then◌else◌, [], ◌∷◌, Option, filter, bytes_eq}
use Rattle.org_inherit.specs.Scope.{Scope}
use Rattle.org_cal.specs.Pieces.{pieces}
use Rattle.org_clocktable.specs.Request.{TableRequest}
use Rattle.org_expression.specs.Grammar.{Expr}
use Rattle.org_engine.specs.Outlines.{scopes_of}
use Rattle.org_engine.specs.World.{FileView, WorldView}

-- a view is over the file of this name: it is over all, or names that one
abbrev pub is_wanted : Option (List ℕ) → List ℕ → Bool
is_wanted file name = option_map_or (λ wanted. bytes_eq wanted name) file true

-- the files that a view is over
abbrev pub files_named : Option (List ℕ) → List FileView → List FileView
files_named file files = filter (λ (own : FileView). is_wanted file own.name) files

-- a world with the files alone that a view is over: all, or the one of a name
abbrev pub world_over : Option (List ℕ) → WorldView → WorldView
world_over file world = record world { files = filter (λ (own : FileView). option_map_or (λ name. bytes_eq name own.name) file true) world.files }

-- a file, if a view is over it
abbrev pub wanted_scope : Option (List ℕ) → Scope → List Scope
wanted_scope file scope = if is_wanted file scope.file then scope ∷ [] else []

-- what inheritance looks at in each of the files that a view is over
abbrev pub scopes_named : Option (List ℕ) → List Scope → List Scope
scopes_named file scopes = filter (λ (scope : Scope). is_wanted file scope.file) scopes

-- the same of the files of a world
abbrev pub scopes_over : Option (List ℕ) → WorldView → List Scope
scopes_over file world = scopes_of (world_over file world)

-- the first and the last day of each of a table's steps
abbrev pub steps_in : TableRequest Expr → List (ℕ × ℕ)
steps_in table = pieces table.step table.days.1 table.days.0
