-- The rows of the line are those of its class.
use Rattle.std.proofs.Common.{◌++◌, ◌∙◌, ap, arith, length}
use Rattle.org_trace.proofs.LogLemmas.{rows_end, rows_more, same_rows}
use Rattle.org_lines.specs.Cuts.{lines_in}
use Rattle.org_trace.proofs.section.push_lines.Goals as goal

pub overflow_add-place : goal.overflow_add-place
overflow_add-place g c =
    let step = rw c.in_ok-line.was at c.in-Some.ensures.steps in
    omega (arith, ap length step.1, c.loop-line.invariant.few, c.requires.within, c.len-len.ensures.fits)

pub loop-line-preserved : goal.loop-line-preserved
loop-line-preserved g c =
    let step = rw c.in_ok-line.was at c.in-Some.ensures.steps in
    let count = ap length step.1 in
    record {
      few = omega (arith, count, c.loop-line.invariant.few);
      all = rows_more c.args.section.now c.args.classes.now c.loop-line.place c.loop-line.rows.items _ _ _ _ step.0 c.in_ok-line.field-0 c.class_at-class.result step.1 step.2.at step.2.bytes c.class_at-class.ensures.value c.in_ok-push_line.ensures.ok c.loop-line.invariant.all;
    }

pub returns-clause-ok : goal.returns-clause-ok
returns-clause-ok g c =
    let none = c.in-None.ensures.steps.0 in
    let section = c.args.section.now in
    let content = g.T.Text.content c.args.text.now in
    let before = c.args.rows.now.items in
    rows_end section c.args.classes.now c.loop-line.place c.loop-line.rows.items _ c.loop-line.line-iterator none c.loop-line.invariant.all
    ∙ ap (λ rs. before ++ rs) (same_rows section (g.T.Text.run_len c.args.text.now) section.span.at (lines_in content section.span) c.args.classes.now)
