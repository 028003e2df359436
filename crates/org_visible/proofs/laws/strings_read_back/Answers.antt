use Rattle.org_visible.proofs.StringLemmas.{strings_read_back}
use Rattle.org_visible.proofs.laws.strings_read_back.Goals as goal

pub returns : goal.returns
returns c = strings_read_back
