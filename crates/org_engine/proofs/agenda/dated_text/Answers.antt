use Rattle.org_engine.specs.Marks.{AnyStamps}
use Rattle.org_engine.proofs.MarkLemmas.{none_some, on_err}
use Rattle.org_engine.proofs.agenda.dated_text.Goals as goal

pub returns-in_err-first-clause-partial : goal.returns-in_err-first-clause-partial
returns-in_err-first-clause-partial g c = on_err c.from_residual.result (none_some AnyStamps c.args.world.now c.args.meter.now)
