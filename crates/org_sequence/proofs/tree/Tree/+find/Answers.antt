use Rattle.std.proofs.Common.{◌-◌, length, arith, ap, ◌∙◌}
use Rattle.std.specs.List.{sum_by}
use Rattle.org_sequence.specs.Sums.{amount_in}
use Rattle.org_sequence.proofs.Splices.{fork_items}
use Rattle.org_sequence.proofs.Finds.{item_right}
use Rattle.org_sequence.proofs.tree.Tree.+find.Goals as goal

pub returns-else-place-total : goal.returns-else-place-total
returns-else-place-total g t c =
    let seen = fork_items _ _ _ _ _ _ c.self.view_is c.in-Fork.is in
    let f = amount_in g.T.Measured.size g.T.Measured.lines c.args.measure in
    let size = c.total-total.ensures.value ∙ ap (λ d. sum_by f d.0) c.deref-in-Fork.ensures in
    let count = c.count.ensures.value ∙ ap (λ d. length d.0) c.deref-else-place-total-2.ensures in
    item_right f _ _ _ _ c.args.place (c.args.place - c.total-total.result) _ _ _ _ seen (ap (λ d. d.0) c.deref-else-place-total.ensures) count size (omega arith) c.find-at.ensures
