use Rattle.std.proofs.Common.{chars, sym, ◌∙◌}
use Rattle.org_expression.proofs.Live.{longest_of, expr_of, whole_of}
use Rattle.org_expression.proofs.scan.measure.Goals as goal

pub returns-clause-longest : goal.returns-clause-longest
returns-clause-longest c = rw c.scan.ensures.at (longest_of (chars c.args.text.now))

pub returns-clause-whole : goal.returns-clause-whole
returns-clause-whole c =
    (λ h. expr_of (chars c.args.text.now) (sym c.scan.ensures.whole ∙ h), λ (e, r). c.scan.ensures.whole ∙ whole_of (chars c.args.text.now) e r)
