use Rattle.std.proofs.Common.{◌≡◌, ◌∙◌, ap, arith, get_or}
use Rattle.org_sum.specs.Measures.{amount}
use Rattle.org_sum.proofs.Ranges.{entry_total, own_is}
use Rattle.org_sum.proofs.sums.amount_at.Goals as goal

pub own_amount-requires : goal.own_amount-requires
own_amount-requires c =
    let f = amount c.args.measure.now in
    let most = entry_total f c.args.outline.now c.args.place c.entry.result.now c.requires.within in
    let same : f c.entry.result.now ≡ f (get_or c.args.outline.now c.args.place c.entry.result.now) = ap f c.entry.ensures.value in
    omega (arith, most, same, c.requires.fits)

pub returns : goal.returns
returns c =
    let f = amount c.args.measure.now in
    record { value = c.own_amount.ensures.value ∙ (rw c.entry.ensures.value (own_is f c.args.outline.now c.args.counted.now c.args.place c.entry.result.now c.requires.within c.requires.count)) }
