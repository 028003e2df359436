-- Written out, so that an edit that breaks it is refused sooner.
use Rattle.std.proofs.Common.{rules}
use Rattle.org_drawer.proofs.planning.with_pair.Goals as goal

pub returns-in-Scheduled : goal.returns-in-Scheduled
returns-in-Scheduled c = search rules
