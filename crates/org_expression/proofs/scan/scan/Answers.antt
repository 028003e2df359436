use Rattle.std.proofs.Common.{◌≡◌, ◌+◌, Some, None, [], chars, arith, sym, ◌∙◌, ap}
use Rattle.std.specs.Str.Iter.{chars_rest}
use Rattle.std.proofs.lemmas.Str.{IsUtf8-past_char, chars-nil}
use Rattle.std.proofs.lemmas.List.{nil_from_length}
use Rattle.org_expression.specs.Automaton.{is_final_at}
use Rattle.org_expression.proofs.Run.{run_none, run_past, reach_past, reach_stuck, len_past}
use Rattle.org_expression.proofs.scan.scan.Goals as goal

pub returns-in-None-step-clause-at : goal.returns-in-None-step-clause-at
returns-in-None-step-clause-at c =
    let inv = c.loop-c.invariant in
    let stuck = reach_stuck c.loop-c.state _ _ c.in-Some.c inv.utf8 c.in-Some.ensures.steps.0 c.in-None-step.ensures.value in
    omega (arith, inv.at, stuck)

pub returns-in-None-step-clause-whole : goal.returns-in-None-step-clause-whole
returns-in-None-step-clause-whole c =
    let inv = c.loop-c.invariant in
    let stuck = run_past c.loop-c.state _ _ c.in-Some.c None inv.utf8 c.in-Some.ensures.steps.0 c.in-None-step.ensures.value in
    sym (ap is_final_at (sym inv.whole ∙ stuck ∙ run_none (chars (chars_rest c.next.new.self))))

pub overflow_add-at : goal.overflow_add-at
overflow_add-at c =
    let len = len_past _ _ c.in-Some.c c.in-Some.ensures.steps.0 in
    omega (arith, c.loop-c.invariant.bytes, len, c.len_utf8-at.ensures.value, c.chars-c-items.ensures.len)

pub loop-c-preserved : goal.loop-c-preserved
loop-c-preserved c =
    let inv = c.loop-c.invariant in
    let parts = c.in-Some.ensures.steps.0 in
    let len = len_past _ _ c.in-Some.c parts in
    let more = reach_past c.loop-c.state c.in-Some-step.next _ _ c.in-Some.c inv.utf8 parts c.in-Some-step.ensures.value in
    record {
      utf8 = IsUtf8-past_char _ _ c.in-Some.c inv.utf8 parts;
      bytes = omega (arith, inv.bytes, len, c.len_utf8-at.ensures.value);
      at = omega (arith, inv.at, more, c.len_utf8-at.ensures.value);
      whole = sym (run_past c.loop-c.state _ _ c.in-Some.c (Some c.in-Some-step.next) inv.utf8 parts c.in-Some-step.ensures.value) ∙ inv.whole;
    }

pub returns-clause-at : goal.returns-clause-at
returns-clause-at c =
    let inv = c.loop-c.invariant in
    let none : chars_rest c.loop-c.c-iterator ≡ [] = nil_from_length _ c.in-None.ensures.steps.0.0 in
    let at : c.loop-c.at + 0 ≡ _ = rw (none, chars-nil) at inv.at in
    omega (arith, at)

pub returns-clause-whole : goal.returns-clause-whole
returns-clause-whole c =
    let inv = c.loop-c.invariant in
    let none : chars_rest c.loop-c.c-iterator ≡ [] = nil_from_length _ c.in-None.ensures.steps.0.0 in
    c.is_final.ensures.value ∙ ap is_final_at (rw (none, chars-nil) at inv.whole)

pub returns-in-None-step-clause-within : goal.returns-in-None-step-clause-within
returns-in-None-step-clause-within c = omega (arith, c.loop-c.invariant.bytes)

pub returns-clause-within : goal.returns-clause-within
returns-clause-within c = omega (arith, c.loop-c.invariant.bytes)
