use Rattle.std.proofs.Common.{◌∙◌, ap}
use Rattle.org_amend.proofs.SearchLemmas.{front_searched}
use Rattle.org_amend.specs.declared.place.FrontSoFar.{FrontSoFar}
use Rattle.org_lines.specs.Cuts.{lines_in}
use Rattle.org_amend.proofs.place.front_end.Goals as goal

pub returns-clause-value : goal.returns-clause-value
returns-clause-value g c =
    ap (λ (s : FrontSoFar). s.end) c.in_ok-known.ensures.value ∙ front_searched c.args.classes.now 0 c.args.section.at (lines_in (g.T.Text.content c.args.text.now) c.args.section)
