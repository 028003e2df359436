use Rattle.std.proofs.Common.{◌∙◌, ◌++◌, ◌∷◌, ◌+◌, [], drop, ap, sym}
use Rattle.org_inherit.specs.Tags.{closed_tags}
use Rattle.org_inherit.proofs.ListLemmas.{cut_at}
use Rattle.org_inherit.proofs.TagLemmas.{closed_tags-next}
use Rattle.org_inherit.proofs.tags.push_closed.Goals as goal

pub loop-place-preserved : goal.loop-place-preserved
loop-place-preserved c =
    let tags = c.args.tags.now in
    let place = c.loop-place.place in
    let text = c.loop-place.text.items in
    let tag = c.get.result.now in
    ap (λ written. written ++ closed_tags (drop (place + 1) tags)) (c.in_ok-push.ensures.items ∙ ap (λ written. written ++ 58 ∷ []) c.in_ok-extend_from_slice.ensures.items)
    ∙ closed_tags-next text tag (drop (place + 1) tags)
    ∙ ap (λ left. text ++ closed_tags left) (sym (cut_at tags place tag c.get.ensures.value))
    ∙ c.loop-place.invariant
