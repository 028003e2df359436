use Rattle.std.proofs.Common.{◌∙◌, ◌+◌, ◌-◌, ◌*◌, ap, map}
use Rattle.std.specs.List.{range_with_len}
use Rattle.org_overview.specs.Charts.{numbers_at, week_len, week_numbers}
use Rattle.org_overview.proofs.RangeLemmas.{some_more, week_within, weeks_before, weeks_behind}
use Rattle.org_overview.proofs.chart.chart_weeks.Goals as goal

pub loop-week-preserved : goal.loop-week-preserved
loop-week-preserved c =
    let first = c.args.period.now.first in
    let last = c.args.period.now.last in
    let week = c.loop-week.week in
    let within = week_within c.number.result c.number-2.result first last week c.number.ensures.value c.number-2.ensures.value c.loop-week-test.true in
    some_more week_numbers (numbers_at c.args.files.now) c.loop-week.weeks.items c.push.new.self.items c.in_ok-week.week (7 * week) (week_len (first, last) (7 * week)) _
    (weeks_behind week (last + 1 - first) within)
    (c.loop-week.invariant ∙ ap (λ k. map (numbers_at c.args.files.now) (range_with_len 0 k)) (weeks_before week (last + 1 - first) within))
    c.in_ok-week.ensures.value c.in_ok-push.ensures.items
