use Rattle.std.proofs.Common.{◌<◌, ◌≤◌, ◌∙◌, arith, length, sym}
use Rattle.org_engine.proofs.MarkLemmas.{pending_all, pending_more}
use Rattle.org_engine.proofs.world.World.first_pending.Goals as goal

pub returns-then-pending_at-gt0-clause-some : goal.returns-then-pending_at-gt0-clause-some
returns-then-pending_at-gt0-clause-some g c =
    let marks = c.args.self.now.marks in
    let place = c.loop-place.place in
    let within : place < length marks = omega (arith, c.loop-place-test.true, c.count-place-end.ensures.value, c.count-place-end.ensures.marks) in
    record { within = within; before = c.loop-place.invariant; own = omega (arith, c.if-pending_at-gt0.true, c.pending_at.ensures.value) }

pub loop-place-preserved : goal.loop-place-preserved
loop-place-preserved g c =
    let marks = c.args.self.now.marks in
    let place = c.loop-place.place in
    let before = c.loop-place.invariant in
    let within : place < length marks = omega (arith, c.loop-place-test.true, c.count-place-end.ensures.value, c.count-place-end.ensures.marks) in
    let more = pending_more marks place within in
    omega (arith, before, more, c.if-pending_at-gt0.false, c.pending_at.ensures.value)

pub returns-clause-none : goal.returns-clause-none
returns-clause-none g c =
    let marks = c.args.self.now.marks in
    let all : length marks ≤ c.loop-place.place = omega (arith, c.loop-place-test.false, c.count-place-end.ensures.value, c.count-place-end.ensures.marks) in
    sym (pending_all marks c.loop-place.place all) ∙ c.loop-place.invariant
