use Rattle.org_lines.proofs.RunLemmas.{line_in_run}
use Rattle.org_lines.proofs.lines.first_line.Goals as goal

pub returns-in-Some-clause-line : goal.returns-in-Some-clause-line
returns-in-Some-clause-line g c = line_in_run (g.T.Text.run_len c.args.text.now) (g.T.Text.content c.args.text.now) c.args.left c.args.run.now c.in-Some.len c.requires.run c.in-Some.ensures
