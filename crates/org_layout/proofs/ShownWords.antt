-- Words of the proofs about Shown: parts of its definitions.
use Rattle.std.specs.Prelude.{List, ℕ}
use Rattle.org_agenda.specs.Days.{AgendaView, day_rows}
use Rattle.org_layout.specs.declared.shown.Line.{Line}
use Rattle.org_layout.specs.Shown.{day_lines_shown}

-- what the lines of a day of an agenda stand for
abbrev pub lines_on : AgendaView → ℕ → List Line
lines_on agenda day = day_lines_shown day (day_rows agenda.profile agenda.sources agenda.today day)
