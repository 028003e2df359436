use Rattle.std.proofs.Common.{subst}
use Rattle.org_agenda.specs.Days.{AgendaView}
use Rattle.org_answer.specs.Ahead.{ShowsNext}
use Rattle.org_answer.proofs.query.next_answer.Goals as goal

pub returns : goal.returns
returns c = record {
  value = subst (λ (agenda : AgendaView). ShowsNext c.rows_ahead.result agenda c.args.chosen.now.moment c.args.within) c.in_ok-agenda.ensures.value c.rows_ahead.ensures.value;
}
