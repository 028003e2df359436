use Rattle.std.proofs.Common.{arith}
use Rattle.org_sum.specs.Measures.{effort_minutes}
use Rattle.org_clocktable.proofs.TableLemmas.{total_more}
use Rattle.org_clocktable.proofs.rows.total_effort.Goals as goal

pub overflow_add-sum : goal.overflow_add-sum
overflow_add-sum c = omega (arith, c.effort-effort.ensures.below, c.loop-file.invariant.small, c.loop-file-test.true, c.requires.at_most)

pub loop-file-preserved : goal.loop-file-preserved
loop-file-preserved c = record {
  value = rw c.effort-effort.ensures.value (total_more effort_minutes c.args.files.now c.loop-file.file-index c.file-item.result _ _ c.loop-file-test.true c.file-item.is c.loop-file.invariant.value);
  small = omega (arith, c.effort-effort.ensures.below, c.loop-file.invariant.small);
}
