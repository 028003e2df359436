-- None of the findings so far counts.
use Rattle.std.proofs.Common.{◌≡◌, drop}
use Rattle.org_check.specs.Chosen.{counts_any}
use Rattle.org_check.proofs.select.Selection.counts_any.Given as goal

abbrev pub invariant-loop-finding : goal.invariant-loop-finding
invariant-loop-finding l = counts_any l.self (drop l.finding-index l.findings) ≡ counts_any l.self l.findings
