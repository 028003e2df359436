use Rattle.std.proofs.Common.{◌∙◌, ap, sym}
use Rattle.org_inherit.specs.Special.{value_of}
use Rattle.org_client.specs.Objects.{with_pair}
use Rattle.org_client.proofs.PairLemmas.{pairs_written}
use Rattle.org_client.proofs.properties.pairs_of.Goals as goal

pub loop-place-preserved : goal.loop-place-preserved
loop-place-preserved c =
    let h = c.args.heading.now in
    let name = c.get.result.now in
    c.in_ok-push_value.ensures.ok
    ∙ ap (λ pairs. with_pair pairs name (value_of h.inherit.now h.place name)) c.loop-place.invariant
    ∙ sym (pairs_written h.inherit.now h.place c.args.asked.now c.loop-place.place name c.get.ensures.value)
