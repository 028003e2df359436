-- Those so far, with those of the files that are left.
use Rattle.std.proofs.Common.{◌≡◌, ◌++◌, drop}
use Rattle.org_client.specs.Clocks.{clock_rows, files_from}
use Rattle.org_client.proofs.clocks.clock_rows.Given as goal

abbrev pub invariant-loop-file : goal.invariant-loop-file
invariant-loop-file l = l.rows.items ++ files_from (l.period.first, l.period.last) l.file (drop l.file l.inherits) ≡ clock_rows (l.period.first, l.period.last) l.inherits
