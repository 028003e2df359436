use Rattle.std.proofs.Common.{◌≡◌, ◌+◌, ◌*◌, ◌≤◌, drop}
use Rattle.org_clocktable.specs.Counted.{total}
use Rattle.org_sum.specs.Measures.{effort_minutes}
use Rattle.org_clocktable.proofs.rows.total_effort.Given as goal

abbrev pub invariant-loop-file : goal.invariant-loop-file
invariant-loop-file l = record {
  value : l.sum + total effort_minutes (drop l.file-index l.files) ≡ total effort_minutes l.files;
  small : l.sum ≤ 36_028_797_018_963_968 * l.file-index;
}
