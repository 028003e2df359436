use Rattle.std.proofs.Common.{◌∙◌, ap, sym}
use Rattle.org_inherit.specs.Tags.{with_tag}
use Rattle.org_inherit.proofs.ListLemmas.{fold_one_more}
use Rattle.org_inherit.proofs.first_tags.FirstTags.add_all.Goals as goal

pub loop-place-preserved : goal.loop-place-preserved
loop-place-preserved c =
    let tag = c.get.result.now in
    c.in_ok-add.ensures.ok
    ∙ ap (λ tags. with_tag tags tag) c.loop-place.invariant
    ∙ sym (fold_one_more with_tag c.args.self.now c.args.tags.now c.loop-place.place tag c.get.ensures.value)
