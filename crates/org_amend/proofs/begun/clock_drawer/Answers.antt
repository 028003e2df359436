-- The stamp is that of the moment.
use Rattle.std.proofs.Common.{◌∙◌, ap}
use Rattle.org_amend.specs.Begun.{drawer_behind}
use Rattle.org_amend.proofs.begun.clock_drawer.Goals as goal

pub returns-clause-value : goal.returns-clause-value
returns-clause-value c =
    c.in_ok-drawer_of.ensures.value ∙ ap (λ stamp. drawer_behind stamp c.args.is_ended c.args.line_break.now) (c.as_str.ensures.value ∙ c.in_ok-stamp.ensures.value)
