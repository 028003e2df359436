use Rattle.org_ical.proofs.ComponentLemmas.{lines_are_short}
use Rattle.org_ical.proofs.laws.lines_are_short.Goals as goal

pub returns : goal.returns
returns c = lines_are_short
