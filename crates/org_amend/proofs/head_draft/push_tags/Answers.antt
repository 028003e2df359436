use Rattle.org_amend.proofs.TagLemmas.{tag_written}
use Rattle.org_amend.proofs.head_draft.push_tags.Goals as goal

pub loop-place-preserved : goal.loop-place-preserved
loop-place-preserved c =
    tag_written c.args.tags.now c.loop-place.line.items c.push_tag.new.line.items _ c.loop-place.place c.get.result.now c.get.ensures.value c.in_ok-push_tag.ensures.ok c.loop-place.invariant
