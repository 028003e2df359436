use Rattle.std.proofs.Common.{◌∙◌, sym}
use Rattle.org_amend.proofs.NodeLemmas.{put_end, put_given, put_other}
use Rattle.org_amend.proofs.changed_nodes.push_nodes.Goals as goal

pub loop-place-preserved-then-is_drawer_end : goal.loop-place-preserved-then-is_drawer_end
loop-place-preserved-then-is_drawer_end c =
    put_end c.args.name.now c.args.node.now c.loop-place.is_put c.args.drawer.now c.loop-place.place c.get-line.result.now c.loop-place.lines.items _ c.get-line.ensures.value c.loop-place.invariant
    c.push_unless.new.lines.items c.extend_from_slice.new.self.items (sym c.is_drawer_end.ensures.value ∙ c.if-is_drawer_end.true) c.in_ok-push_unless.ensures.ok c.in_ok-extend_from_slice.ensures.items

pub loop-place-preserved-then-gives : goal.loop-place-preserved-then-gives
loop-place-preserved-then-gives c =
    put_given c.args.name.now c.args.node.now c.loop-place.is_put c.args.drawer.now c.loop-place.place c.get-line.result.now c.loop-place.lines.items _ c.get-line.ensures.value c.loop-place.invariant
    c.push_unless-then-gives.new.lines.items (sym c.is_drawer_end.ensures.value ∙ c.if-is_drawer_end.false) (sym c.gives.ensures.value ∙ c.if-gives.true) c.in_ok-push_unless-2.ensures.ok

pub loop-place-preserved : goal.loop-place-preserved
loop-place-preserved c =
    put_other c.args.name.now c.args.node.now c.loop-place.is_put c.args.drawer.now c.loop-place.place c.get-line.result.now c.loop-place.lines.items _ c.get-line.ensures.value c.loop-place.invariant
    c.extend_from_slice-in-loop-place.new.self.items (sym c.is_drawer_end.ensures.value ∙ c.if-is_drawer_end.false) (sym c.gives.ensures.value ∙ c.if-gives.false) c.in_ok-extend_from_slice-2.ensures.items
