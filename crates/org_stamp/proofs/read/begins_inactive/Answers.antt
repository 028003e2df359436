use Rattle.org_stamp.proofs.SeenLemmas.{other_front}
use Rattle.org_stamp.proofs.read.begins_inactive.Goals as goal

pub returns-else-first-eq91 : goal.returns-else-first-eq91
returns-else-first-eq91 c = record { value = other_front c.in-Some.first.now c.args.bytes.now c.in-Some.rest.now c.in-Some.ensures.cases.0 c.if-first-eq91.false }
