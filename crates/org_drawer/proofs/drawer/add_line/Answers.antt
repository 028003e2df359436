-- Written out, so that an edit that breaks it is refused sooner.
use Rattle.std.proofs.Common.{rules}
use Rattle.org_drawer.proofs.drawer.add_line.Goals as goal

pub returns-in-Some : goal.returns-in-Some
returns-in-Some c = search rules
