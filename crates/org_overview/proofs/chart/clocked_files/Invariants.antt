use Rattle.std.proofs.Common.{◌≡◌, ◌++◌, drop}
use Rattle.org_overview.specs.Charts.{clocked_files, files_numbers}
use Rattle.org_overview.proofs.chart.clocked_files.Given as goal

abbrev pub invariant-loop-file : goal.invariant-loop-file
invariant-loop-file l = files_numbers l.files.items ++ clocked_files (l.period.first, l.period.last) l.file (drop l.file l.inherits) ≡ clocked_files (l.period.first, l.period.last) 0 l.inherits
