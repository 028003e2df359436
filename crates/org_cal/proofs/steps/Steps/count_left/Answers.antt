use Rattle.std.proofs.Common.{arith}
use Rattle.org_cal.proofs.PieceLemmas.{pieces_none, length_pieces}
use Rattle.org_cal.proofs.steps.Steps.count_left.Goals as goal

pub returns-then-self-last : goal.returns-then-self-last
returns-then-self-last c =
    let e = pieces_none c.self.inside.step c.self.inside.last c.self.inside.next (omega arith) in
    record { value = cc }

pub returns-in-Whole : goal.returns-in-Whole
returns-in-Whole c =
    let e = length_pieces c.self.inside.step c.self.inside.last c.self.inside.next (c.self.invariant.0) (omega arith) in
    record { value = cc }

pub returns-in-Day : goal.returns-in-Day
returns-in-Day c =
    let e = length_pieces c.self.inside.step c.self.inside.last c.self.inside.next (c.self.invariant.0) (omega arith) in
    record { value = cc }

pub returns-in-Week : goal.returns-in-Week
returns-in-Week c =
    let e = length_pieces c.self.inside.step c.self.inside.last c.self.inside.next (c.self.invariant.0) (omega arith) in
    record { value = cc }
