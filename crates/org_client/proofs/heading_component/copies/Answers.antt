-- One text more.
use Rattle.std.proofs.Common.{◌∙◌, ◌++◌, [], ◌∷◌, ap, sym}
use Rattle.std.proofs.lemmas.List.{map-append}
use Rattle.org_ical.specs.Results.{bytes_of}
use Rattle.org_inherit.proofs.ListLemmas.{take_one_more}
use Rattle.org_client.proofs.heading_component.copies.Goals as goal

pub loop-place-preserved : goal.loop-place-preserved
loop-place-preserved c =
    let text = c.get.result.now in
    let copy = c.in_ok-from_slice.field-0 in
    ap bytes_of c.in_ok-push.ensures.items
    ∙ map-append _ c.loop-place.copies.items (copy ∷ [])
    ∙ (λ i. c.loop-place.invariant i ++ c.in_ok-from_slice.ensures.items i ∷ [])
    ∙ sym (take_one_more c.args.texts.now c.loop-place.place text c.get.ensures.value)
