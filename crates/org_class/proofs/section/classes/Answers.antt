-- The line is passed, and its class is the next.
use Rattle.std.proofs.Common.{◌∙◌, ◌+◌, sym, ap, arith, length}
use Rattle.org_lines.specs.Cuts.{lines}
use Rattle.org_base.specs.Spans.{bytes_in}
use Rattle.org_class.proofs.EndLemmas.{ends_known}
use Rattle.org_class.proofs.LineLemmas.{drop_next}
use Rattle.org_class.proofs.StepLemmas.{passed, class_more, bytes_of}
use Rattle.org_class.proofs.section.classes.Goals as goal

pub overflow_add-rest : goal.overflow_add-rest
overflow_add-rest g c =
    let step = rw c.in_ok-line.was at c.in-Some.ensures.steps in
    let known = c.loop-line.invariant in
    let p = passed (g.T.Text.content c.args.text.now) c.loop-line.rest _ _ step.0 c.in_ok-line.line.span.len (omega (arith, known.to_the_end, c.requires.within)) known.left step.1 step.2.len in
    omega (arith, p.within, known.to_the_end, c.requires.within, c.len-len.ensures.fits)

pub overflow_sub-rest : goal.overflow_sub-rest
overflow_sub-rest g c =
    let step = rw c.in_ok-line.was at c.in-Some.ensures.steps in
    let known = c.loop-line.invariant in
    (passed (g.T.Text.content c.args.text.now) c.loop-line.rest _ _ step.0 c.in_ok-line.line.span.len (omega (arith, known.to_the_end, c.requires.within)) known.left step.1 step.2.len).within

pub new-ahead-requires-clause-within : goal.new-ahead-requires-clause-within
new-ahead-requires-clause-within g c =
    let step = rw c.in_ok-line.was at c.in-Some.ensures.steps in
    let known = c.loop-line.invariant in
    let p = passed (g.T.Text.content c.args.text.now) c.loop-line.rest _ _ step.0 c.in_ok-line.line.span.len (omega (arith, known.to_the_end, c.requires.within)) known.left step.1 step.2.len in
    omega (arith, p.within, known.to_the_end, c.requires.within)

pub new-ahead-requires-clause-known : goal.new-ahead-requires-clause-known
new-ahead-requires-clause-known g c =
    let step = rw c.in_ok-line.was at c.in-Some.ensures.steps in
    let known = c.loop-line.invariant in
    let p = passed (g.T.Text.content c.args.text.now) c.loop-line.rest _ _ step.0 c.in_ok-line.line.span.len (omega (arith, known.to_the_end, c.requires.within)) known.left step.1 step.2.len in
    let all = lines (bytes_in (g.T.Text.content c.args.text.now) c.args.section) in
    let next = drop_next c.loop-line.number all step.0.bytes _ (known.passed ∙ ap bytes_of step.1) in
    ends_known c.in_ok-ends.ends (c.loop-line.number + 1) all _ (p.behind ∙ sym next) c.in_ok-ends.ensures.value

pub loop-line-preserved : goal.loop-line-preserved
loop-line-preserved g c =
    let step = rw c.in_ok-line.was at c.in-Some.ensures.steps in
    let known = c.loop-line.invariant in
    let p = passed (g.T.Text.content c.args.text.now) c.loop-line.rest _ _ step.0 c.in_ok-line.line.span.len (omega (arith, known.to_the_end, c.requires.within)) known.left step.1 step.2.len in
    let all = lines (bytes_in (g.T.Text.content c.args.text.now) c.args.section) in
    let count = ap length step.1 in
    record {
      to_the_end = omega (arith, p.within, known.to_the_end);
      left = p.behind;
      passed = drop_next c.loop-line.number all step.0.bytes _ (known.passed ∙ ap bytes_of step.1);
      few = omega (arith, count, known.few);
      all = class_more c.loop-line.classes _ _ c.in_ok-class.class c.loop-line.stage c.pass.new.self _ _ step.0 c.as_slice.result.now _ step.1 (c.as_slice.ensures.value ∙ step.2.bytes) (c.new-ahead.ensures.value ∙ p.behind) c.in_ok-class.ensures.value c.in_ok-push.ensures.ok known.all;
    }

pub loop-line-preserved-in_ok-push : goal.loop-line-preserved-in_ok-push
loop-line-preserved-in_ok-push g c =
    let step = rw c.in_ok-line.was at c.in-Some.ensures.steps in
    let known = c.loop-line.invariant in
    let p = passed (g.T.Text.content c.args.text.now) c.loop-line.rest _ _ step.0 c.in_ok-line.line.span.len (omega (arith, known.to_the_end, c.requires.within)) known.left step.1 step.2.len in
    let all = lines (bytes_in (g.T.Text.content c.args.text.now) c.args.section) in
    let count = ap length step.1 in
    record {
      to_the_end = omega (arith, p.within, known.to_the_end);
      left = p.behind;
      passed = drop_next c.loop-line.number all step.0.bytes _ (known.passed ∙ ap bytes_of step.1);
      few = omega (arith, count, known.few);
      all = class_more c.loop-line.classes _ _ c.in_ok-class.class c.loop-line.stage c.pass.new.self _ _ step.0 c.as_slice.result.now _ step.1 (c.as_slice.ensures.value ∙ step.2.bytes) (c.new-ahead.ensures.value ∙ p.behind) c.in_ok-class.ensures.value c.in_ok-push.ensures.ok known.all;
    }
