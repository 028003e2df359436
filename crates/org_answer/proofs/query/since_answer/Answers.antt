use Rattle.std.proofs.Common.{subst}
use Rattle.org_agenda.specs.Days.{AgendaView}
use Rattle.org_client.specs.Reminders.{rows_between}
use Rattle.org_answer.specs.Ahead.{ShowsRows}
use Rattle.org_answer.proofs.query.since_answer.Goals as goal

pub returns : goal.returns
returns c = record {
  value = subst (λ (agenda : AgendaView). ShowsRows c.rows_since.result agenda (rows_between c.args.window.now agenda)) c.in_ok-agenda.ensures.value c.rows_since.ensures.value;
}
