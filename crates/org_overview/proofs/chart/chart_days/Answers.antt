use Rattle.std.proofs.Common.{refl}
use Rattle.org_overview.specs.Charts.{day_numbers, numbers_at}
use Rattle.org_overview.proofs.RangeLemmas.{one_more}
use Rattle.org_overview.proofs.chart.chart_days.Goals as goal

pub loop-place-preserved : goal.loop-place-preserved
loop-place-preserved c =
    one_more day_numbers (numbers_at c.args.files.now) c.loop-place.days.items c.push.new.self.items c.in_ok-day.day c.args.first c.loop-place.place _ refl
    c.loop-place.invariant c.in_ok-day.ensures.value c.in_ok-push.ensures.items
