use Rattle.std.proofs.Common.{◌-◌, length, arith, ap}
use Rattle.org_sequence.proofs.Splices.{fork_items}
use Rattle.org_sequence.proofs.Finds.{run_right}
use Rattle.org_sequence.proofs.tree.Tree.+run_at.Goals as goal

pub returns-else-at-count-clause-run : goal.returns-else-at-count-clause-run
returns-else-at-count-clause-run g t c =
    let seen = fork_items _ _ _ _ _ _ c.self.view_is c.in-Fork.is in
    let count = ap (λ d. length d.0) c.deref.ensures in
    run_right c.args.self.now.0 c.in-Fork.left.value.0 c.in-Fork.right.value.0 c.deref-else-at-count.result.now.0 c.run_at-else-at-count.result.now c.args.at (c.args.at - c.count-count.result) (length c.run_at-else-at-count.result.now) seen (ap (λ d. d.0) c.deref-else-at-count.ensures) (omega arith) c.run_at-else-at-count.ensures.run
