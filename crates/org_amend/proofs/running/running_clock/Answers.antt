use Rattle.std.proofs.Common.{◌∙◌, ap}
use Rattle.org_amend.proofs.SearchLemmas.{running_searched}
use Rattle.org_amend.proofs.WithinLemmas.{running_found}
use Rattle.org_amend.specs.declared.running.FirstRunning.{FirstRunning}
use Rattle.org_lines.specs.Cuts.{lines_in}
use Rattle.org_amend.proofs.running.running_clock.Goals as goal

pub returns-clause-value : goal.returns-clause-value
returns-clause-value g c =
    ap (λ (s : FirstRunning). s.found) c.in_ok-known.ensures.value ∙ running_searched c.args.classes.now 0 c.args.section.at (lines_in (g.T.Text.content c.args.text.now) c.args.section)

pub returns-clause-within : goal.returns-clause-within
returns-clause-within g c =
    let text = g.T.Text.content c.args.text.now in
    running_found text c.args.section c.args.classes.now c.in_ok-known.known.found c.requires.within
    (ap (λ (s : FirstRunning). s.found) c.in_ok-known.ensures.value ∙ running_searched c.args.classes.now 0 c.args.section.at (lines_in text c.args.section))
