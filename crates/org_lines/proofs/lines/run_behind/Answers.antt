use Rattle.org_lines.proofs.RunLemmas.{run_rest}
use Rattle.std.proofs.Common.{arith}
use Rattle.org_lines.proofs.lines.run_behind.Goals as goal

pub returns-then-len_here-run : goal.returns-then-len_here-run
returns-then-len_here-run g c = run_rest (g.T.Text.run_len c.args.text.now) (g.T.Text.content c.args.text.now) c.args.span c.args.run.now c.args.len c.requires.run (omega arith)
