use Rattle.std.proofs.Common.{◌∙◌, ap, sym, take}
use Rattle.org_inherit.specs.Tags.{tags_text, with_shown}
use Rattle.org_inherit.proofs.ListLemmas.{take_one_more}
use Rattle.org_inherit.proofs.TagLemmas.{tags_text-more}
use Rattle.org_inherit.proofs.tags.tags_text.Goals as goal

pub loop-place-preserved : goal.loop-place-preserved
loop-place-preserved c =
    let tags = c.args.tags.now in
    let place = c.loop-place.place in
    let tag = c.get.result.now in
    c.in_ok-push_tag.ensures.ok
    ∙ ap (λ text. with_shown text tag) c.loop-place.invariant
    ∙ sym (tags_text-more (take place tags) tag)
    ∙ ap tags_text (sym (take_one_more tags place tag c.get.ensures.value))
