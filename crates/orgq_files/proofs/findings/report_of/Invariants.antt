-- The lines so far have no control character.
use Rattle.org_check.specs.Clean.{AreCleanLines}
use Rattle.orgq_files.proofs.findings.report_of.Given as goal

abbrev pub invariant-loop-file : goal.invariant-loop-file
invariant-loop-file l = AreCleanLines l.all.lines.items
