use Rattle.std.proofs.Common.{◌≡◌, ◌∙◌, ◌+◌, arith, ap, get_or}
use Rattle.std.proofs.lemmas.List.Sums.{sum_by_more, sum_by-take-le}
use Rattle.org_drawer.specs.Clock.{minutes_in}
use Rattle.org_drawer.specs.declared.clock.ClockLine.{ClockLine}
use Rattle.org_sum.proofs.measure.minutes_of.Goals as goal

pub overflow_add-sum : goal.overflow_add-sum
overflow_add-sum c =
    let f = λ (clock : ClockLine). minutes_in clock (c.args.period.now.first, c.args.period.now.last) in
    let clocks = c.args.clocks.now in
    let i = c.loop-clock.clock-index in
    let item = c.clock-item.result in
    let same : c.minutes_in-sum.result ≡ f (get_or clocks i item) = c.minutes_in-sum.ensures.value ∙ ap f c.clock-item.is in
    omega (arith, same, c.loop-clock.invariant, sum_by_more f clocks i item c.loop-clock-test.true, sum_by-take-le f clocks (i + 1), c.requires.fits)

pub loop-clock-preserved : goal.loop-clock-preserved
loop-clock-preserved c =
    let f = λ (clock : ClockLine). minutes_in clock (c.args.period.now.first, c.args.period.now.last) in
    let clocks = c.args.clocks.now in
    let i = c.loop-clock.clock-index in
    let item = c.clock-item.result in
    let same : c.minutes_in-sum.result ≡ f (get_or clocks i item) = c.minutes_in-sum.ensures.value ∙ ap f c.clock-item.is in
    omega (arith, same, c.loop-clock.invariant, sum_by_more f clocks i item c.loop-clock-test.true)
