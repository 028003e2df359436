use Rattle.std.proofs.Common.{◌∙◌, ap, arith, length, sym}
use Rattle.org_amend.proofs.RunningLemmas.{length_more}
use Rattle.org_amend.proofs.SearchLemmas.{search_none, search_over, search_step}
use Rattle.org_amend.proofs.search.search_lines.Goals as goal

-- no more line matters
pub returns-then-is_over-clause-value : goal.returns-then-is_over-clause-value
returns-then-is_over-clause-value g c =
    sym (search_over g.S.Search.known_after g.S.Search.ends c.loop-line.known c.args.classes.now c.loop-line.place c.loop-line.at _ (sym c.is_over.ensures.value ∙ c.if-is_over.true)) ∙ c.loop-line.invariant.all

-- one does
pub loop-line-preserved-else-is_over : goal.loop-line-preserved-else-is_over
loop-line-preserved-else-is_over g c =
    let step = rw c.in_ok-line.was at c.in-Some.ensures.steps in
    let l = c.as_slice-line.result.now in
    let is = c.as_slice-line.ensures.value ∙ step.2.bytes in
    let count = ap length step.1 in
    let more = length_more _ _ step.0 l step.1 is in
    record {
      few = omega (arith, count, c.loop-line.invariant.few);
      room = omega (arith, more, c.loop-line.invariant.room);
      all = search_step g.S.Search.known_after g.S.Search.ends c.loop-line.known c.after-known.result c.class_at.result c.args.classes.now c.loop-line.place c.loop-line.at _ _ step.0 l _
          c.after-known.ensures.value c.class_at.ensures.value (sym c.is_over.ensures.value ∙ c.if-is_over.false) step.1 is c.loop-line.invariant.all;
    }

pub loop-line-preserved : goal.loop-line-preserved
loop-line-preserved g c =
    let step = rw c.in_ok-line.was at c.in-Some.ensures.steps in
    let l = c.as_slice-line.result.now in
    let is = c.as_slice-line.ensures.value ∙ step.2.bytes in
    let count = ap length step.1 in
    let more = length_more _ _ step.0 l step.1 is in
    record {
      few = omega (arith, count, c.loop-line.invariant.few);
      room = omega (arith, more, c.loop-line.invariant.room);
      all = search_step g.S.Search.known_after g.S.Search.ends c.loop-line.known c.after-known.result c.class_at.result c.args.classes.now c.loop-line.place c.loop-line.at _ _ step.0 l _
          c.after-known.ensures.value c.class_at.ensures.value (sym c.is_over.ensures.value ∙ c.if-is_over.false) step.1 is c.loop-line.invariant.all;
    }

-- none is left
pub returns-clause-value : goal.returns-clause-value
returns-clause-value g c =
    search_none g.S.Search.known_after g.S.Search.ends c.loop-line.known c.args.classes.now c.loop-line.place c.loop-line.at _ _ c.in-None.ensures.steps.0 c.loop-line.invariant.all
