use Rattle.org_expression.proofs.Drafts as drafts
use Rattle.org_expression.proofs.laws.one_tree.Goals as goal

pub returns : goal.returns
returns c = drafts.one_tree
