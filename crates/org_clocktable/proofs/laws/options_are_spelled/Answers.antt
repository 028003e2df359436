use Rattle.org_clocktable.proofs.OptionLemmas.{options_are_spelled}
use Rattle.org_clocktable.proofs.laws.options_are_spelled.Goals as goal

pub returns : goal.returns
returns c = options_are_spelled
