use Rattle.org_page.proofs.LinkLemmas.{paths_are_plain}
use Rattle.org_page.proofs.laws.paths_are_plain.Goals as goal

pub returns : goal.returns
returns c = paths_are_plain
