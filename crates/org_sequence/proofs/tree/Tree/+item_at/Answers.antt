use Rattle.std.proofs.Common.{◌-◌, arith, ap, ◌∙◌}
use Rattle.std.specs.List.{sum_by}
use Rattle.org_sequence.proofs.Splices.{fork_items}
use Rattle.org_sequence.proofs.Finds.{holds_right}
use Rattle.org_sequence.proofs.tree.Tree.+item_at.Goals as goal

pub returns-else-place-size : goal.returns-else-place-size
returns-else-place-size g t c =
    let seen = fork_items _ _ _ _ _ _ c.self.view_is c.in-Fork.is in
    let f = g.T.Measured.size in
    let size = c.sums-size.ensures.value.size_is ∙ ap (λ d. sum_by f d.0) c.deref-in-Fork.ensures in
    holds_right f c.args.self.now.0 c.in-Fork.left.value.0 c.in-Fork.right.value.0 c.deref-in-Fork-2.result.now.0 c.args.place (c.args.place - c.sums-size.result.size) c.item_at-before.result.1 c.sums-size.result.size c.item_at-before.result.0.now seen (ap (λ d. d.0) c.deref-in-Fork-2.ensures) size (omega arith) c.item_at-before.ensures
