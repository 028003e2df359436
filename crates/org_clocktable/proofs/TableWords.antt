-- Words of the proofs about Table: parts of its definitions.
use Rattle.org_agenda.specs.Found.{found_from}
use Rattle.std.specs.Prelude.{ℕ, List}
use Rattle.org_entry.specs.declared.entry.Entry.{Entry}
use Rattle.org_clocktable.specs.Counted.{Counted, heading_sum}
use Rattle.org_clocktable.specs.declared.row.TableRow.{TableRow}
use Rattle.org_sum.specs.Measures.{clock_minutes, effort_minutes}
use Rattle.org_clocktable.specs.Table.{entry_rows}

-- the rows of entries, of which the first stands at place i of its file
abbrev pub rows_from : ℕ × ℕ → ℕ → ℕ → Counted → ℕ → List Entry → List TableRow
rows_from days most file counted i es =
    found_from (λ k e. entry_rows most file k (heading_sum (clock_minutes days) counted k) (heading_sum effort_minutes counted k) e) i es
