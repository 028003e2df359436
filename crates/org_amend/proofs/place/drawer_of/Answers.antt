use Rattle.std.proofs.Common.{◌∙◌, ap}
use Rattle.std.specs.Prelude.{None}
use Rattle.org_amend.proofs.SearchLemmas.{drawer_searched}
use Rattle.org_amend.specs.Searches.{ended_drawer}
use Rattle.org_lines.specs.Cuts.{lines_in}
use Rattle.org_amend.proofs.place.drawer_of.Goals as goal

pub returns-clause-value : goal.returns-clause-value
returns-clause-value g c =
    c.drawer.ensures.value
    ∙ (ap ended_drawer c.in_ok-known.ensures.value ∙ drawer_searched c.args.name None c.args.classes.now 0 c.args.section.at (lines_in (g.T.Text.content c.args.text.now) c.args.section))
