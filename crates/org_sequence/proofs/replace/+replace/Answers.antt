use Rattle.std.proofs.Common.{◌-◌, length, arith, ap, ◌∙◌}
use Rattle.std.proofs.lemmas.Result.{IfOk-weaker}
use Rattle.org_sequence.specs.Parts.{items_of}
use Rattle.org_sequence.proofs.Splices.{fork_items, room_left, room_right, room_both, spliced_right, spliced_both}
use Rattle.org_sequence.proofs.replace.+replace.Goals as goal

pub join_of-requires : goal.join_of-requires
join_of-requires g t c =
    let seen = fork_items c.tree.inside.node c.args.tree.now c.in-Fork.left c.in-Fork.right _ _ c.tree.view_is c.in-Fork.is in
    record { fits = room_left g.T.Measured.size c.args.tree.now.0 c.in-Fork.left.value.0 c.in-Fork.right.value.0 c.deref-then-to-count.result.now.0 _ (items_of c.args.middle.now) _ c.args.from c.args.to _ seen (ap (λ d. d.0) c.deref-then-to-count.ensures) (ap (λ d. d.0) c.in_ok-clone-in-Fork.ensures.cases) c.in_ok-front-in-Fork.ensures c.requires.order c.requires.size_fits }

pub join_of-requires-then-from-count :
    goal.join_of-requires-then-from-count
join_of-requires-then-from-count g t c =
    let seen = fork_items c.tree.inside.node c.args.tree.now c.in-Fork.left c.in-Fork.right _ _ c.tree.view_is c.in-Fork.is in
    record { fits = room_right g.T.Measured.size c.args.tree.now.0 c.in-Fork.left.value.0 c.in-Fork.right.value.0 _ c.deref-then-from-count.result.now.0 (items_of c.args.middle.now) _ (c.args.from - c.count-count.result) (c.args.to - c.count-count.result) _ seen (ap (λ d. d.0) c.in_ok-clone-in-Fork-2.ensures.cases) (ap (λ d. d.0) c.deref-then-from-count.ensures) c.in_ok-back-in-Fork.ensures (omega arith) c.requires.size_fits }

pub join_of-requires-else-from-count :
    goal.join_of-requires-else-from-count
join_of-requires-else-from-count g t c =
    let seen = fork_items c.tree.inside.node c.args.tree.now c.in-Fork.left c.in-Fork.right _ _ c.tree.view_is c.in-Fork.is in
    record { fits = room_both g.T.Measured.size c.args.tree.now.0 c.in-Fork.left.value.0 c.in-Fork.right.value.0 c.deref-else-from-count.result.now.0 c.deref-else-from-count-2.result.now.0 (items_of c.args.middle.now) _ _ c.args.from c.count-count.result 0 (c.args.to - c.count-count.result) _ seen (ap (λ d. d.0) c.deref-else-from-count.ensures) (ap (λ d. d.0) c.deref-else-from-count-2.ensures) c.in_ok-front-in-Fork-2.ensures c.in_ok-back-in-Fork-2.ensures (omega arith) (omega arith) c.requires.size_fits }

pub returns-in_ok-back-in-Fork : goal.returns-in_ok-back-in-Fork
returns-in_ok-back-in-Fork g t c =
    let seen = fork_items c.tree.inside.node c.args.tree.now c.in-Fork.left c.in-Fork.right _ _ c.tree.view_is c.in-Fork.is in
    let count = ap (λ d. length d.0) c.deref-in-Fork.ensures in
    IfOk-weaker c.join_of-then-from-count.result _ _ (λ x e. e ∙ spliced_right c.args.tree.now.0 c.in-Fork.left.value.0 c.in-Fork.right.value.0 _ c.deref-then-from-count.result.now.0 (items_of c.args.middle.now) _ c.args.from c.args.to (c.args.from - c.count-count.result) (c.args.to - c.count-count.result) seen (ap (λ d. d.0) c.in_ok-clone-in-Fork-2.ensures.cases) (ap (λ d. d.0) c.deref-then-from-count.ensures) c.in_ok-back-in-Fork.ensures (omega arith) (omega arith)) c.join_of-then-from-count.ensures

pub returns-in_ok-back-in-Fork-2 : goal.returns-in_ok-back-in-Fork-2
returns-in_ok-back-in-Fork-2 g t c =
    let seen = fork_items c.tree.inside.node c.args.tree.now c.in-Fork.left c.in-Fork.right _ _ c.tree.view_is c.in-Fork.is in
    let count = ap (λ d. length d.0) c.deref-in-Fork.ensures in
    IfOk-weaker c.join_of-else-from-count.result _ _ (λ x e. e ∙ spliced_both c.args.tree.now.0 c.in-Fork.left.value.0 c.in-Fork.right.value.0 c.deref-else-from-count.result.now.0 c.deref-else-from-count-2.result.now.0 (items_of c.args.middle.now) _ _ c.args.from c.args.to (c.args.to - c.count-count.result) c.count-count.result seen (ap (λ d. d.0) c.deref-else-from-count.ensures) (ap (λ d. d.0) c.deref-else-from-count-2.ensures) c.in_ok-front-in-Fork-2.ensures c.in_ok-back-in-Fork-2.ensures (omega arith) (omega arith) (omega arith)) c.join_of-else-from-count.ensures
