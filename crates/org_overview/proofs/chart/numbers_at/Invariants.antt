use Rattle.std.proofs.Common.{◌≡◌, ◌++◌, drop}
use Rattle.org_overview.specs.Charts.{numbers_at}
use Rattle.org_overview.proofs.chart.numbers_at.Given as goal

abbrev pub invariant-loop-file : goal.invariant-loop-file
invariant-loop-file l = l.numbers.items ++ numbers_at (drop l.file-index l.files) l.place ≡ numbers_at l.files l.place
