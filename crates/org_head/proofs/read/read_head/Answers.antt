use Rattle.org_head.proofs.Inside.{head_inside}
use Rattle.org_head.proofs.read.read_head.Goals as goal

pub returns-clause-within : goal.returns-clause-within
returns-clause-within c = head_inside c.args.settings.now c.args.line.now c.in_ok-read_parts.field-0 c.in_ok-read_parts.ensures.value
