-- Written out, so that an edit that breaks it is refused sooner.
use Rattle.std.proofs.Common.{rules}
use Rattle.org_settings.proofs.property.add_given.Goals as goal

pub returns : goal.returns
returns c = search rules
