use Rattle.org_index.proofs.LaneLemmas.{lanes_empty}
use Rattle.org_index.proofs.index.DayIndex.new.Goals as goal

pub invariant_of-result : goal.invariant_of-result
invariant_of-result c = lanes_empty c.new.result c.new-2.result c.new.ensures.empty c.new-2.ensures
