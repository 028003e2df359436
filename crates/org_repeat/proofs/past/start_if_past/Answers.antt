use Rattle.std.proofs.Common.{ℕ, ◌∙◌, ap, sym, arith}
use Rattle.std.specs.Prelude.{Some}
use Rattle.org_repeat.specs.Steps.{moment_at}
use Rattle.org_repeat.proofs.OrderLemmas.{unmoved_only, unmoved_some}
use Rattle.org_repeat.proofs.past.start_if_past.Goals as goal

pub returns-clause-some : goal.returns-clause-some
returns-clause-some c =
    unmoved_some c.args.from.day c.args.from.minute _ c.args.unit c.minutes_at.ensures.day c.minutes_at.ensures.time (omega (arith, c.if-minutes_at.false, c.minutes_at.ensures.value, c.minutes_at-2.ensures.value))

pub returns-clause-only : goal.returns-clause-only
returns-clause-only c = λ d t f.
    let same = unmoved_only c.args.from.day c.args.from.minute _ d t c.args.unit c.minutes_at.ensures.time f in
    ap (λ (x : ℕ). Some (moment_at x c.args.from.minute)) (sym same.0) ∙ ap (λ (x : ℕ). Some (moment_at d x)) (sym same.1)
