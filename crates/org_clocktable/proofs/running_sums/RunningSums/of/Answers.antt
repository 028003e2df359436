use Rattle.std.proofs.Common.{ℕ, arith, refl}
use Rattle.org_clocktable.proofs.RunningSumLemmas.{made, marks_ended, minutes_ended}
use Rattle.org_clocktable.proofs.running_sums.RunningSums.of.Goals as goal

pub invariant_of-result : goal.invariant_of-result
invariant_of-result c =
    let days : ℕ × ℕ = (c.args.period.now.first, c.args.period.now.last) in
    let clocks = c.args.clocks.now in
    let i = c.loop-clock.clock-index in
    (made days clocks c.loop-clock.running.items c.loop-clock.total c.requires.order
    (marks_ended days c.loop-clock.running.items _ c.loop-clock.total i clocks (omega arith) c.loop-clock.invariant.running)
    (minutes_ended days c.loop-clock.total _ i clocks (omega arith) c.loop-clock.invariant.total)).0

pub returns : goal.returns
returns c =
    let days : ℕ × ℕ = (c.args.period.now.first, c.args.period.now.last) in
    let clocks = c.args.clocks.now in
    let i = c.loop-clock.clock-index in (
      refl,
      (made days clocks c.loop-clock.running.items c.loop-clock.total c.requires.order
          (marks_ended days c.loop-clock.running.items _ c.loop-clock.total i clocks (omega arith) c.loop-clock.invariant.running)
          (minutes_ended days c.loop-clock.total _ i clocks (omega arith) c.loop-clock.invariant.total)).1,
    )
