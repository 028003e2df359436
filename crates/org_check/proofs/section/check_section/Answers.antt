-- The marks of the line are those of its class.
use Rattle.std.proofs.Common.{◌++◌, ◌∙◌, ap, arith, length}
use Rattle.org_check.proofs.SaidLemmas.{marks_end, marks_more, same_marks}
use Rattle.org_lines.specs.Cuts.{lines_in}
use Rattle.org_check.specs.Said.{said}
use Rattle.org_check.proofs.section.check_section.Goals as goal

pub loop-line-preserved : goal.loop-line-preserved
loop-line-preserved g c =
    let step = rw c.in_ok-line.was at c.in-Some.ensures.steps in
    let count = ap length step.1 in
    record {
      few = omega (arith, count, c.loop-line.invariant.few);
      all = marks_more c.args.classes.now c.loop-line.place (said c.loop-line.found) _ _ _ _ step.0 c.in_ok-line.field-0 c.class_at-class.result step.1 step.2.at step.2.bytes c.class_at-class.ensures.value c.in_ok-check_in.ensures.said c.loop-line.invariant.all;
    }

pub returns-clause-said : goal.returns-clause-said
returns-clause-said g c =
    let none = c.in-None.ensures.steps.0 in
    let content = g.T.Text.content c.args.text.now in
    let before = said c.args.found.now in
    marks_end c.args.classes.now c.loop-line.place (said c.loop-line.found) _ c.loop-line.line-iterator none c.loop-line.invariant.all
    ∙ ap (λ ms. before ++ ms) (same_marks (g.T.Text.run_len c.args.text.now) c.args.section.at (lines_in content c.args.section) c.args.classes.now)
