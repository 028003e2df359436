use Rattle.org_index.proofs.LaneLemmas.{lanes_again}
use Rattle.org_index.proofs.index.DayIndex.share.Goals as goal

pub invariant_of-result : goal.invariant_of-result
invariant_of-result c = lanes_again c.self.inside.reaches c.in_ok-copy_of.field-0 c.self.inside.day_sets c.in_ok-share.field-0 c.in_ok-copy_of.ensures c.in_ok-share.ensures c.self.invariant
