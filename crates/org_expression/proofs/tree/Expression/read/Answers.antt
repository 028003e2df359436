use Rattle.std.proofs.Common.{chars, sym, ◌∙◌, rules}
use Rattle.org_expression.proofs.Drafting.{read_only, not_none, not_not}
use Rattle.org_expression.proofs.tree.Expression.read.Goals as goal

pub returns-in-Some-clause-value : goal.returns-in-Some-clause-value
returns-in-Some-clause-value c =
    let some = c.measure-extent.ensures.whole.0 (not_not _ c.if-not-extent.false) in
    read_only (chars c.args.text.now) c.in-Some.written some (sym c.in-Some.is ∙ c.in_ok-written.ensures.value)

pub returns-in-None-clause-refused : goal.returns-in-None-clause-refused
returns-in-None-clause-refused c =
    let some = c.measure-extent.ensures.whole.0 (not_not _ c.if-not-extent.false) in
    absurd (not_none (chars c.args.text.now) some (sym c.in-None.is ∙ c.in_ok-written.ensures.value))

pub returns-then-not-extent-clause-refused : goal.returns-then-not-extent-clause-refused
returns-then-not-extent-clause-refused c = search rules
