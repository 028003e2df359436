use Rattle.std.proofs.Common.{◌∙◌, ◌+◌, arith}
use Rattle.org_wire.proofs.ServeLemmas.{reads_fewer, work_step}
use Rattle.org_wire.proofs.serve.work.Goals as goal

pub returns-in-Ok-false-2-clause-counts : goal.returns-in-Ok-false-2-clause-counts
returns-in-Ok-false-2-clause-counts g c =
    let step = work_step c.loop-step._step c.args.engine.now c.loop-step.engine c.work.new.self c.work.result c.loop-step.invariant.counts c.work.ensures.some c.work.ensures.none c.work.ensures.partial in
    reads_fewer (c.loop-step._step + 1) c.args.idle c.args.engine.now c.work.new.self (omega (arith, c.loop-step-test.true)) step

pub loop-step-preserved : goal.loop-step-preserved
loop-step-preserved g c = record {
  state = c.work.ensures.state ∙ c.loop-step.invariant.state;
  counts = work_step c.loop-step._step c.args.engine.now c.loop-step.engine c.work.new.self c.work.result c.loop-step.invariant.counts c.work.ensures.some c.work.ensures.none c.work.ensures.partial;
}
