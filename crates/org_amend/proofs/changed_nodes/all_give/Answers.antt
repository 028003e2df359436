use Rattle.std.proofs.Common.{◌∙◌, sym}
use Rattle.org_amend.proofs.NodeLemmas.{all_more, all_stops}
use Rattle.org_amend.proofs.changed_nodes.all_give.Goals as goal

pub returns-then-not-ends_or_gives : goal.returns-then-not-ends_or_gives
returns-then-not-ends_or_gives c =
    record { value = sym (all_stops c.args.name.now c.args.drawer.now c.loop-place.place c.get.result.now c.get.ensures.value (sym c.ends_or_gives.ensures.value ∙ c.if-not-ends_or_gives.true)) ∙ c.loop-place.invariant }

pub loop-place-preserved : goal.loop-place-preserved
loop-place-preserved c =
    all_more c.args.name.now c.args.drawer.now c.loop-place.place c.get.result.now c.get.ensures.value (sym c.ends_or_gives.ensures.value ∙ c.if-not-ends_or_gives.false) ∙ c.loop-place.invariant
