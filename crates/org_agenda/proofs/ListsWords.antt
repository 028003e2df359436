-- Words of the proofs about Lists: parts of its definitions.
use Rattle.org_agenda.specs.Found.{in_file}
use Rattle.std.specs.Option.{option_map_or}
use Rattle.std.specs.Prelude.{ℕ, List, [], Option}
use Rattle.org_entry.specs.Entry.{heading_line}
use Rattle.org_entry.specs.declared.entry.Entry.{Entry}
use Rattle.org_head.specs.Head.{priority_of}
use Rattle.org_head.specs.declared.head.Head.{Head}
use Rattle.org_inherit.specs.Scope.{Scope}
use Rattle.org_agenda.specs.Lists.{Listing, Ranked, row_at, heading_rows}

-- the row of the heading at a place of a file, with the priority of the heading
abbrev pub ranked_row : Scope → ℕ → ℕ → Entry → Head → Ranked
ranked_row scope file i e head = record { priority = priority_of scope.settings (heading_line e) head; row = row_at file i }

-- the row of an entry of a file, if the list shows it
abbrev pub head_rows : Listing → Scope → ℕ → ℕ → Entry → Option Head → List Ranked
head_rows listing scope file i e found = option_map_or (heading_rows listing scope file i e) found []

-- the rows of entries, the first of which stands at a place
abbrev pub rows_from : Listing → Scope → ℕ → ℕ → List Entry → List Ranked
rows_from listing scope file i es = in_file (heading_rows listing scope file) i es
