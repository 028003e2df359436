-- The lines so far have no control character, and with those of the findings that are left they are all.
use Rattle.std.proofs.Common.{◌≡◌, ◌++◌, drop}
use Rattle.org_check.specs.Clean.{AreCleanLines}
use Rattle.org_check.specs.Printed.{lines_by}
use Rattle.org_check.proofs.show.report.Given as goal

abbrev pub invariant-loop-finding : goal.invariant-loop-finding
invariant-loop-finding g l = record {
  clean : AreCleanLines l.out.items;
  printed : l.out.items ++ lines_by l.wanted l.name (g.T.Text.content l.text) (drop l.finding-index l.finding-items) ≡ lines_by l.wanted l.name (g.T.Text.content l.text) l.finding-items;
}
