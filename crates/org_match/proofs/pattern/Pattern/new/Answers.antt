use Rattle.org_match.proofs.Found.{readable}
use Rattle.org_match.proofs.pattern.Pattern.new.Goals as goal

pub returns-in-Ok-clause-built : goal.returns-in-Ok-clause-built
returns-in-Ok-clause-built c = readable c.in-Ok.regex c.in-Ok.ensures.config c.in-Ok.ensures.read
