use Rattle.org_overview.proofs.HereLemmas.{dealt_marks}
use Rattle.org_overview.proofs.here.today_of.Goals as goal

pub returns-clause-today : goal.returns-clause-today
returns-clause-today g c = record {
  whole = c.in_ok-whole.ensures.value;
  timed = dealt_marks _ c.in_ok-timed.timed.items c.in_ok-placed.placed.boxes.items c.in_ok-placed.placed.beside.items c.in_ok-timed.ensures.value c.in_ok-placed.ensures.dealt;
}
