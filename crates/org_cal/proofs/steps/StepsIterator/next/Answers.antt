use Rattle.std.proofs.Common.{◌≡◌, ap, length, arith, rules}
use Rattle.org_cal.specs.Pieces.{piece_end}
use Rattle.org_cal.proofs.PieceLemmas.{pieces_none, pieces_some}
use Rattle.org_cal.proofs.steps.StepsIterator.next.Goals as goal

pub returns-then-self-number-clause-steps : goal.returns-then-self-number-clause-steps
returns-then-self-number-clause-steps c =
    let e = pieces_none c.self.inside.step c.self.inside.last c.self.inside.next (omega arith) in
    (cc, cc)

steps : goal.returns-clause-steps
steps c =
    let e = pieces_some c.self.inside.step c.self.inside.last c.self.inside.next (omega arith) in
    let first : c.unwrap-first.result ≡ c.self.inside.next = search rules in
    let last : c.number-2.result ≡ piece_end c.self.inside.step c.self.inside.last c.self.inside.next = cc in
    cc

pub returns-clause-steps : goal.returns-clause-steps
returns-clause-steps c = steps c

pub returns-clause-goes : goal.returns-clause-goes
returns-clause-goes c =
    let e = ap length (steps c) in
    record { on = λ finite. (search rules, search rules, omega (arith, e)); keeps = search rules; rests = λ finite. search rules }
