use Rattle.std.proofs.Common.{◌≡◌, drop}
use Rattle.org_lines.specs.Cuts.{lines_in}
use Rattle.org_search.specs.Holds.{are_met}
use Rattle.org_search.proofs.scan.all_met.Given as goal

abbrev pub invariant-loop-term : goal.invariant-loop-term
invariant-loop-term g l = record {
  same : l.terms ≡ l.fn.terms;
  told : are_met (drop l.term-index l.terms) (lines_in (g.T.Text.content l.text) l.section) ≡ are_met l.terms (lines_in (g.T.Text.content l.text) l.section);
}
