use Rattle.std.proofs.Common.{ℕ, ◌+◌, arith, drop}
use Rattle.org_clocktable.specs.Table.{file_rows, files_rows}
use Rattle.org_clocktable.proofs.TableLemmas.{files_more, moved, total_more}
use Rattle.org_sum.specs.Measures.{clock_minutes}
use Rattle.org_clocktable.proofs.rows.push_files.Goals as goal

pub loop-place-preserved : goal.loop-place-preserved
loop-place-preserved c =
    let days : ℕ × ℕ = (c.args.period.now.first, c.args.period.now.last) in
    let most = c.args.most in
    let files = c.args.files.now in
    let place = c.loop-place.place in
    let file = c.index-files-place.result in
    let inv = c.loop-place.invariant in
    let own = c.in_ok-own.ensures in
    record {
      rows = moved _ _ (file_rows days most place file) (files_rows days most (place + 1) (drop (place + 1) files)) (files_rows days most place (drop place files)) _
          own.rows (files_more days most files place file c.loop-place-test.true c.index-files-place.is) inv.rows;
      sum = rw own.sum (total_more (clock_minutes days) files place file _ _ c.loop-place-test.true c.index-files-place.is inv.sum);
      small = omega (arith, own.below, inv.small);
    }
