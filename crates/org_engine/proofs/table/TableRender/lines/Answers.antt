use Rattle.std.proofs.Common.{List, ap, map, subst, ◌∙◌}
use Rattle.org_base.specs.Results.{GivesItems}
use Rattle.org_clocktable.specs.Counted.{Counted, counted_of}
use Rattle.org_engine.specs.Places.{steps_shown}
use Rattle.org_engine.proofs.table.TableRender.lines.Goals as goal

pub returns-clause-value : goal.returns-clause-value
returns-clause-value c =
    let t = c.args.self.now in
    subst (λ (files : List Counted). GivesItems c.step_lines_of.result (steps_shown t.spec.now files))
    (c.as_slice.ensures.value ∙ c.in_ok-files.ensures.value ∙ ap (λ e. map (counted_of e t.moment) c.args.inherits.now) c.expression.ensures.value) c.step_lines_of.ensures.value
