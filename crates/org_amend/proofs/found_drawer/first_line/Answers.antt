use Rattle.std.proofs.Common.{sym}
use Rattle.org_amend.proofs.FirstLineLemmas.{first_to, first_whole}
use Rattle.org_amend.proofs.found_drawer.first_line.Goals as goal

pub returns-in-Some-clause-value : goal.returns-in-Some-clause-value
returns-in-Some-clause-value c = first_to c.args.text.now c.in-Some.place (sym c.in-Some.ensures.value)

pub returns-in-None-clause-value : goal.returns-in-None-clause-value
returns-in-None-clause-value c = first_whole c.args.text.now (sym c.in-None.ensures.value)
