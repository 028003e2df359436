-- Written out, so that an edit that breaks it is refused sooner.
use Rattle.std.proofs.Common.{rules}
use Rattle.org_inherit.proofs.values.file_value.Goals as goal

pub returns-in-Some : goal.returns-in-Some
returns-in-Some c = search rules
