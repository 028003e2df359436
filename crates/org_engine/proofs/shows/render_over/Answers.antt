use Rattle.std.proofs.Common.{◌∙◌, ap}
use Rattle.org_engine.specs.Views.{scopes_over}
use Rattle.org_engine.proofs.MarkLemmas.{none_examined, on_err}
use Rattle.org_engine.proofs.ShownLemmas.{zip_all}
use Rattle.org_engine.proofs.shows.render_over.Goals as goal

pub returns-in_err-inherits-clause-partial : goal.returns-in_err-inherits-clause-partial
returns-in_err-inherits-clause-partial g c = on_err c.from_residual.result (none_examined (g.V.Render.may c.args.view.now) c.args.meter.now)

pub lines-requires-clause-same : goal.lines-requires-clause-same
lines-requires-clause-same g c = λ named.
    zip_all c.args.world.now.world c.args.outlines.now c.in_ok-inherits.inherits c.requires.read (c.in_ok-inherits.ensures.value ∙ ap (λ n. scopes_over n c.args.world.now.world) (c.file.ensures.value ∙ named))

pub returns-in-Text-clause-partial : goal.returns-in-Text-clause-partial
returns-in-Text-clause-partial g c = on_err c.lines_text.result c.in_ok-lines.ensures.partial

pub returns-in_err-places_text-in-Places-clause-partial : goal.returns-in_err-places_text-in-Places-clause-partial
returns-in_err-places_text-in-Places-clause-partial g c = on_err c.from_residual-in_err-places_text-in-Places.result c.in_ok-lines.ensures.partial
