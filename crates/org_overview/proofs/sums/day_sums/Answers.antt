use Rattle.std.proofs.Common.{◌+◌, ap, sym}
use Rattle.org_overview.specs.Sums.{day_sum}
use Rattle.org_overview.proofs.RangeLemmas.{number_more}
use Rattle.org_overview.proofs.sums.day_sums.Goals as goal

pub loop-ahead-preserved : goal.loop-ahead-preserved
loop-ahead-preserved c =
    number_more (day_sum c.args.clocks.now) c.loop-ahead.sums.items c.push.new.self.items c.sum_on.result c.args.period.now.first c.loop-ahead.ahead (c.number-first.result + c.loop-ahead.ahead)
    (ap (λ k. k + c.loop-ahead.ahead) (sym c.number-first.ensures.value))
    c.loop-ahead.invariant c.sum_on.ensures.value c.in_ok-push.ensures.items
