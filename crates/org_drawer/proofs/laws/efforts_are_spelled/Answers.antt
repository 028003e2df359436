use Rattle.org_drawer.proofs.SpelledLemmas.{efforts_are_spelled}
use Rattle.org_drawer.proofs.laws.efforts_are_spelled.Goals as goal

pub returns : goal.returns
returns c = efforts_are_spelled
