use Rattle.std.proofs.Common.{◌∙◌, ◌++◌, ◌∷◌, [], ap, sym}
use Rattle.org_inherit.proofs.ListLemmas.{take_one_more}
use Rattle.org_inherit.proofs.tags.copy_tags.Goals as goal

pub loop-place-preserved : goal.loop-place-preserved
loop-place-preserved c =
    let tag = c.get.result.now in
    c.in_ok-push.ensures.ok
    ∙ ap (λ tags. tags ++ tag ∷ []) c.loop-place.invariant
    ∙ sym (take_one_more c.args.tags.now c.loop-place.place tag c.get.ensures.value)
