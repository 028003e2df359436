-- The rows of the headings whose own text holds what is asked (profile).
use Rattle.std.specs.Prelude.{ℕ, zero, suc, Bool, false, not, ◌&&◌, if◌then◌else◌, List, [], ◌∷◌, ◌++◌, Option, None, Some, is_some, length, min, slice_get}
use Rattle.org_agenda.specs.Lists.{row_at}
use Rattle.org_agenda.specs.declared.row.Row.{Row}
use Rattle.org_client.specs.Files.{NamedText, own_section}
use Rattle.org_entry.specs.declared.entry.Entry.{Entry}
use Rattle.org_inherit.specs.Hidden.{is_hidden}
use Rattle.org_inherit.specs.Scope.{Scope}
use Rattle.org_lines.specs.Cuts.{lines}
use Rattle.org_search.specs.Holds.{are_met}
use Rattle.org_search.specs.Typed.{Asked}

-- the lines of a heading's own text hold all that has to be there, and nothing that mustn't
abbrev pub section_meets : List Asked → NamedText → ℕ → Bool
section_meets asked file heading = are_met asked (lines (own_section file heading))

-- there is an entry, and it has a heading
abbrev pub has_heading : Option Entry → Bool
has_heading None = false
has_heading (Some entry) = is_some entry.head

-- the entry at a place has a heading that isn't hidden, and its own text holds what is asked
abbrev pub is_found : List Asked → NamedText → Scope → ℕ → Bool
is_found asked file scope heading = has_heading (slice_get scope.entries heading) && not (is_hidden scope.entries heading) && section_meets asked file heading

-- of the first so many entries of the file at a place a row for each that is found, in their order
abbrev pub rows_to : (ℕ → Bool) → ℕ → ℕ → List Row
rows_to found file zero = []
rows_to found file (suc n) = rows_to found file n ++ (if found n then row_at file n ∷ [] else [])

abbrev pub rows_in : List Asked → NamedText → Scope → ℕ → List Row
rows_in asked file scope place = rows_to (is_found asked file scope) place (length scope.entries)

-- those of a file, if it is there
abbrev pub file_rows : List Asked → Option NamedText → Option Scope → ℕ → List Row
file_rows asked None scope place = []
file_rows asked (Some file) None place = []
file_rows asked (Some file) (Some scope) place = rows_in asked file scope place

-- those of the first so many files
abbrev pub files_rows : List Asked → List NamedText → List Scope → ℕ → List Row
files_rows asked files scopes zero = []
files_rows asked files scopes (suc n) = files_rows asked files scopes n ++ file_rows asked (slice_get files n) (slice_get scopes n) n

-- those of all files, in the order of files and of their headings
abbrev pub found_rows : List Asked → List NamedText → List Scope → List Row
found_rows asked files scopes = files_rows asked files scopes (min (length files) (length scopes))
