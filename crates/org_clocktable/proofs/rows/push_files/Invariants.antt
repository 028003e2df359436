use Rattle.std.proofs.Common.{◌≡◌, ◌+◌, ◌*◌, ◌≤◌, ◌++◌, drop}
use Rattle.org_clocktable.specs.Counted.{total}
use Rattle.org_clocktable.specs.Table.{files_rows}
use Rattle.org_sum.specs.Measures.{clock_minutes}
use Rattle.org_clocktable.proofs.rows.push_files.Given as goal

abbrev pub invariant-loop-place : goal.invariant-loop-place
invariant-loop-place l = record {
  rows : l.rows.items ++ files_rows (l.period.first, l.period.last) l.most l.place (drop l.place l.files) ≡ l.fn.rows.items ++ files_rows (l.period.first, l.period.last) l.most 0 l.files;
  sum : l.sum + total (clock_minutes (l.period.first, l.period.last)) (drop l.place l.files) ≡ total (clock_minutes (l.period.first, l.period.last)) l.files;
  small : l.sum ≤ 36_028_797_018_963_968 * l.place;
}
