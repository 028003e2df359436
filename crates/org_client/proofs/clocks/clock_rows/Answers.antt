-- One file more.
use Rattle.std.proofs.Common.{ℕ}
use Rattle.org_client.proofs.ClockLemmas.{files_more}
use Rattle.org_clocktable.proofs.TableLemmas.{moved}
use Rattle.org_client.proofs.clocks.clock_rows.Goals as goal

pub loop-file-preserved : goal.loop-file-preserved
loop-file-preserved c =
    let days : ℕ × ℕ = (c.args.period.now.first, c.args.period.now.last) in
    moved _ _ _ _ _ _ c.in_ok-push_scope.ensures (files_more days c.args.inherits.now c.loop-file.file c.get.result.now c.get.ensures.value) c.loop-file.invariant
