-- Another number of words than three.
use Rattle.std.proofs.Common.{sym}
use Rattle.org_settings.proofs.PriorityLemmas.{not_three}
use Rattle.org_settings.proofs.priority.default_of.Goals as goal

pub returns-else-words-eq3-clause-value : goal.returns-else-words-eq3-clause-value
returns-else-words-eq3-clause-value c = sym (not_three c.args.words.now c.if-words-eq3.false)
