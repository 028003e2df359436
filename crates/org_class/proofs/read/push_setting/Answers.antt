-- Written out, so that an edit that breaks it is refused sooner.
use Rattle.std.proofs.Common.{rules}
use Rattle.org_class.proofs.read.push_setting.Goals as goal

pub returns-in-Some-Setting-clause-ok : goal.returns-in-Some-Setting-clause-ok
returns-in-Some-Setting-clause-ok c = search rules
