use Rattle.std.proofs.Common.{◌-◌, length, take, arith, ap, sym, subst, ◌∙◌}
use Rattle.std.specs.List.{sum_by}
use Rattle.org_sequence.specs.Sums.{AreSums}
use Rattle.org_sequence.proofs.Joins.{sums_behind}
use Rattle.org_sequence.proofs.Splices.{fork_items}
use Rattle.org_sequence.proofs.tree.Tree.+sums_before.Goals as goal

pub returns-else-at-count : goal.returns-else-at-count
returns-else-at-count g t c =
    let seen = fork_items _ _ _ _ _ _ c.self.view_is c.in-Fork.is in
    let whole = rw c.in-Fork.is at c.self.invariant in
    let m = g.T.Measured in
    let count = c.count-count.ensures.value ∙ ap (λ d. length d.0) c.deref.ensures in
    let both = sums_behind m.size m.lines m.pending m.flagged c.args.self.now.0 c.in-Fork.left.value.0 c.in-Fork.right.value.0 c.deref-else-at-count.result.now.0 c.deref-else-at-count-2.result.now.0 c.args.at (c.args.at - c.count-count.result) c.count-count.result c.sums.result c.sums_before-else-at-count.result seen (ap (λ d. d.0) c.deref-else-at-count.ensures) (ap (λ d. d.0) c.deref-else-at-count-2.ensures) count (omega arith) c.sums.ensures.value c.sums_before-else-at-count.ensures (omega (arith, whole.sums.size_is, whole.sums.covered.fits, ap (sum_by m.size) seen)) in
    subst (λ s. AreSums m.size m.lines m.pending m.flagged (take c.args.at c.args.self.now.0) s) (sym c.plus.ensures.value) both.1
