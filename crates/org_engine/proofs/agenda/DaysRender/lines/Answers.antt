use Rattle.std.proofs.Common.{◌+◌, ◌-◌}
use Rattle.org_agenda.specs.Bound.{near_count}
use Rattle.org_engine.proofs.agenda.DaysRender.lines.Goals as goal

pub returns-in_err-agenda-clause-partial : goal.returns-in_err-agenda-clause-partial
returns-in_err-agenda-clause-partial c = (c.in_err-agenda.ensures.partial.0, λ lt. tt, c.in_err-agenda.ensures.partial.1)

pub returns-clause-partial : goal.returns-clause-partial
returns-clause-partial c =
    let d = c.args.self.now in
    (near_count d.as_of.profile d.first (d.first + d.count - 1) d.as_of.today c.args.inherits.now, λ lt. tt, c.in_ok-agenda.ensures.counts)
