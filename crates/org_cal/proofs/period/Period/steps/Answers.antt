use Rattle.std.proofs.Common.{sym, subst, arith}
use Rattle.org_cal.specs.Pieces.{AreCut, pieces}
use Rattle.org_cal.proofs.PieceLemmas.{pieces_are_cut}
use Rattle.org_cal.proofs.period.Period.steps.Goals as goal

pub returns-clause-cut : goal.returns-clause-cut
returns-clause-cut c =
    let step = c.args.step in
    let first = c.args.self.first in
    let last = c.args.self.last in
    subst (λ n. AreCut step first last (pieces step last n)) (sym c.number.ensures.value)
    (pieces_are_cut step last first (omega (arith, c.number.ensures)) c.args.self.ordered)
