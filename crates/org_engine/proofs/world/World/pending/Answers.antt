use Rattle.std.proofs.Common.{◌<◌, ◌≤◌, ◌∙◌, arith, length}
use Rattle.org_engine.proofs.MarkLemmas.{pending_all, pending_more}
use Rattle.org_engine.proofs.world.World.pending.Goals as goal

pub loop-place-preserved : goal.loop-place-preserved
loop-place-preserved g c =
    let marks = c.args.self.now.marks in
    let place = c.loop-place.place in
    let before = c.loop-place.invariant in
    let sum = before.sum in
    let small = before.small in
    let within : place < length marks = omega (arith, c.loop-place-test.true, c.count-place-end.ensures.value, c.count-place-end.ensures.marks) in
    let more = pending_more marks place within in
    record {
      sum = omega (arith, sum, more, c.pending_at.ensures.value, c.from-pending.ensures);
      small = omega (arith, small, c.from-pending.ensures);
    }

pub returns : goal.returns
returns g c = record {
  value =
      let marks = c.args.self.now.marks in
      let all : length marks ≤ c.loop-place.place = omega (arith, c.loop-place-test.false, c.count-place-end.ensures.value, c.count-place-end.ensures.marks) in
      c.loop-place.invariant.sum ∙ pending_all marks c.loop-place.place all;
}
