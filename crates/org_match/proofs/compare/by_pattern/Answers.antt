-- Written out, so that an edit that breaks it is refused sooner.
use Rattle.std.proofs.Common.{rules}
use Rattle.org_match.proofs.compare.by_pattern.Goals as goal

pub returns-in-Differs : goal.returns-in-Differs
returns-in-Differs c = search rules
