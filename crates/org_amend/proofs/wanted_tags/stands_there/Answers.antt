use Rattle.std.proofs.Common.{◌∙◌, sym}
use Rattle.org_amend.proofs.TagLemmas.{tag_behind, tag_here}
use Rattle.org_amend.proofs.wanted_tags.stands_there.Goals as goal

pub returns-then-eq : goal.returns-then-eq
returns-then-eq c =
    record { value = sym (tag_here c.args.tags.now c.loop-place.place c.get.result.now c.args.tag.now c.get.ensures.value (sym c.eq.ensures ∙ c.if-eq.true)) ∙ c.loop-place.invariant }

pub loop-place-preserved : goal.loop-place-preserved
loop-place-preserved c =
    tag_behind c.args.tags.now c.loop-place.place c.get.result.now c.args.tag.now c.get.ensures.value (sym c.eq.ensures ∙ c.if-eq.false) ∙ c.loop-place.invariant
