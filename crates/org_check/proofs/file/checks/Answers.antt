-- Findings in another order explain the same marks.
use Rattle.org_check.proofs.SaidLemmas.{said_in_order}
use Rattle.org_check.proofs.file.checks.Goals as goal

pub returns-clause-marks : goal.returns-clause-marks
returns-clause-marks g c = said_in_order _ _ _ _ c.new-findings.ensures.value c.in_ok-check_text.ensures.said c.in_ok-sort.ensures.same
