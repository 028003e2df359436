-- Which entries are hidden (Org manual 9.6, "Comment Lines"; "Internal Archiving"; that below a hidden one all are,
-- and that a file's tags hide nothing: profile).
use Rattle.std.specs.Option.{option_map_or}
use Rattle.std.specs.Prelude.{ℕ, Bool, false, ◌||◌, Option, None, Some, List, ◌∷◌, map, get_or, bytes_eq, codes}
use Rattle.std.specs.List.{list_any}
use Rattle.org_entry.specs.declared.entry.Entry.{Entry}
use Rattle.org_base.specs.Spans.{bytes_in}
use Rattle.org_outline.specs.Levels.{levels}
use Rattle.org_outline.specs.Tree.{ancestors}

-- the tag that hides
abbrev pub is_archive : List ℕ → Bool
is_archive tag = bytes_eq tag (codes "ARCHIVE")

-- an entry hides itself and what is below it: its heading line has the word COMMENT or names the tag ARCHIVE
abbrev pub hides : Entry → Bool
hides e = option_map_or (λ head. head.comment || list_any (λ tag. bytes_eq tag (codes "ARCHIVE")) (map (bytes_in e.text) head.tags)) e.head false

-- an entry is hidden if it or an ancestor hides
abbrev pub is_hidden : List Entry → ℕ → Bool
is_hidden es i = list_any (λ j. get_or (map hides es) j false) (i ∷ ancestors (levels es) i)

-- what a table says of a parent, if there is one
abbrev pub of_parent : List Bool → Option ℕ → Bool
of_parent table None = false
of_parent table (Some p) = get_or table p false
