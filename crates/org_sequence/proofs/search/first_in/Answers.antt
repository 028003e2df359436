use Rattle.std.proofs.Common.{drop, length-drop, arith, ap, sym, ◌∙◌, ◌+◌}
use Rattle.std.proofs.lemmas.List.{take_rest}
use Rattle.org_sequence.specs.Sums.{bears}
use Rattle.org_sequence.proofs.Finds.{position_at}
use Rattle.org_sequence.proofs.search.first_in.Goals as goal

pub returns-then-has_sign : goal.returns-then-has_sign
returns-then-has_sign g c =
    let p = bears g.T.Measured.pending g.T.Measured.flagged c.args.sign in
    let rest = drop c.args.from c.args.items.now in
    let is = rw (take_rest c.args.items.now c.args.from) at c.item-item.is in
    let first = position_at p rest c.loop-at.at c.item-item.result (omega (arith, length-drop c.args.from c.args.items.now)) is (sym c.has_sign.ensures.value ∙ c.if-has_sign.true) c.loop-at.invariant in
    (ap (λ i. c.args.from + i) first, omega (arith, length-drop c.args.from c.args.items.now))
