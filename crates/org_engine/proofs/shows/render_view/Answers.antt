use Rattle.std.proofs.Common.{◌∙◌, ap}
use Rattle.org_engine.specs.Views.{scopes_over}
use Rattle.org_engine.specs.World.{KeptWorld}
use Rattle.org_engine.proofs.MarkLemmas.{on_err, read_examined, some_examined, some_read, where_err, where_ok}
use Rattle.org_engine.proofs.shows.render_view.Goals as goal

pub render_over-requires : goal.render_over-requires
render_over-requires g c = record { read = rw (ap (λ (w : KeptWorld). w.world) c.in_ok-outlines.ensures.read.0) (c.as_slice.ensures.value ∙ c.in_ok-outlines.ensures.value) }

pub returns-clause-value : goal.returns-clause-value
returns-clause-value g c = rw (ap (λ (w : KeptWorld). w.world) c.in_ok-outlines.ensures.read.0) at c.render_over.ensures.value

pub returns-clause-read : goal.returns-clause-read
returns-clause-read g c =
    where_ok c.render_over.result (λ more. read_examined (g.V.Render.examines c.args.view.now (scopes_over (g.V.Render.named c.args.view.now) c.args.world.now.world)) c.args.world.now c.read_world.new.world c.args.meter.now c.read_world.new.meter c.render_over.new.meter c.in_ok-outlines.ensures.read more)
    (rw (ap (λ (w : KeptWorld). w.world) c.in_ok-outlines.ensures.read.0) at c.render_over.ensures.counts)

pub returns-clause-partial : goal.returns-clause-partial
returns-clause-partial g c =
    where_err c.render_over.result (λ some. some_examined (g.V.Render.may c.args.view.now) c.args.world.now c.read_world.new.world c.args.meter.now c.read_world.new.meter c.render_over.new.meter c.in_ok-outlines.ensures.read some) c.render_over.ensures.partial

pub returns-in_err-outlines-clause-partial : goal.returns-in_err-outlines-clause-partial
returns-in_err-outlines-clause-partial g c = on_err c.from_residual.result (some_read (g.V.Render.may c.args.view.now) c.args.world.now c.read_world.new.world c.args.meter.now c.read_world.new.meter c.in_err-outlines.ensures.partial)
