use Rattle.std.proofs.Common.{◌∙◌, ◌++◌, ap, arith}
use Rattle.std.proofs.lemmas.List.{take_all}
use Rattle.org_clocktable.specs.Counted.{placed}
use Rattle.org_clocktable.proofs.counted.push_all.Goals as goal

pub returns : goal.returns
returns c =
    let place = c.args.place in
    c.loop-clock.invariant
    ∙ ap (λ own. c.args.clocks.now.items ++ placed place own) (take_all c.loop-clock.clock-index c.args.own.now (omega arith))
