use Rattle.std.proofs.Common.{◌∙◌, sym}
use Rattle.org_amend.proofs.NodeLemmas.{once_more, once_other, once_wrong}
use Rattle.org_amend.proofs.changed_nodes.says_once.Goals as goal

pub loop-place-preserved-then-not-is_given : goal.loop-place-preserved-then-not-is_given
loop-place-preserved-then-not-is_given c =
    once_other c.args.name.now c.args.value.now c.loop-place.is_said c.args.drawer.now c.loop-place.place c.get-line.result.now _ c.get-line.ensures.value c.loop-place.invariant (sym c.is_given.ensures.value ∙ c.if-not-is_given.true)

pub returns-then-not-says_first : goal.returns-then-not-says_first
returns-then-not-says_first c =
    record {
      value = once_wrong c.args.name.now c.args.value.now c.loop-place.is_said c.args.drawer.now c.loop-place.place c.get-line.result.now _ c.get-line.ensures.value c.loop-place.invariant
          (sym c.is_given.ensures.value ∙ c.if-not-is_given.false) (sym c.says_first.ensures.value ∙ c.if-not-says_first.true);
    }

pub loop-place-preserved : goal.loop-place-preserved
loop-place-preserved c =
    once_more c.args.name.now c.args.value.now c.loop-place.is_said c.args.drawer.now c.loop-place.place c.get-line.result.now _ c.get-line.ensures.value c.loop-place.invariant
    (sym c.is_given.ensures.value ∙ c.if-not-is_given.false) (sym c.says_first.ensures.value ∙ c.if-not-says_first.false)
