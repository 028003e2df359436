use Rattle.org_ical.proofs.ComponentLemmas.{lines_read_back}
use Rattle.org_ical.proofs.laws.lines_read_back.Goals as goal

pub returns : goal.returns
returns c = lines_read_back
