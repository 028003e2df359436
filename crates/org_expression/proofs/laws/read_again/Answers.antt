use Rattle.org_expression.proofs.Drafts.{read_all-spell}
use Rattle.org_expression.proofs.laws.read_again.Goals as goal

pub returns : goal.returns
returns c = read_all-spell
