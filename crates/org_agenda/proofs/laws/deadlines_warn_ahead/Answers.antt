use Rattle.org_agenda.proofs.KindLemmas.{warn_ahead}
use Rattle.org_agenda.proofs.laws.deadlines_warn_ahead.Goals as goal

pub returns : goal.returns
returns c = warn_ahead
