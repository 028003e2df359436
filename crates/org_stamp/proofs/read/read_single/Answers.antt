use Rattle.std.proofs.Common.{◌≡◌, ◌∙◌, ap, drop}
use Rattle.org_stamp.specs.Read.{single_of}
use Rattle.org_stamp.proofs.ReadLemmas.{single_only, single_at}
use Rattle.org_stamp.proofs.CanPrintLemmas.{single_bounds}
use Rattle.org_stamp.proofs.read.read_single.Goals as goal

answer : (c : goal.After-single_of) → c.single_of.result ≡ single_of (drop c.args.at c.args.line.now)
answer c = c.single_of.ensures.value ∙ ap single_of c.split_at.ensures.back

pub returns-clause-found : goal.returns-clause-found
returns-clause-found c = single_at c.single_of.result (drop c.args.at c.args.line.now) (answer c)

pub returns-clause-only : goal.returns-clause-only
returns-clause-only c = λ bytes rest s split stamp. answer c ∙ ap single_of split ∙ single_only bytes rest s stamp

pub returns-clause-bounds : goal.returns-clause-bounds
returns-clause-bounds c = single_bounds c.single_of.result (drop c.args.at c.args.line.now) (answer c)
