use Rattle.org_layout.proofs.LineLemmas.{lines}
use Rattle.org_layout.proofs.laws.lines_are_whole.Goals as goal

pub returns : goal.returns
returns c = lines
