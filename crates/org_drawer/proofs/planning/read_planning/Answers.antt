-- The pairs are read one by one, and a line without a first one is no planning line.
use Rattle.std.proofs.Common.{ap, sym, ◌∙◌, ◌∷◌, Some, None, List, drop}
use Rattle.std.specs.Prelude.{if◌then◌else◌, not, Option}
use Rattle.org_stamp.specs.Pair.{is_empty, pairs_from}
use Rattle.org_stamp.specs.declared.pair.Pair.{Pair}
use Rattle.org_drawer.specs.declared.planning.Planning.{Planning}
use Rattle.org_drawer.specs.Planning.{planned}
use Rattle.org_drawer.proofs.PlanningLemmas.{with_left, one_more, none_yet, inside_more}
use Rattle.org_drawer.proofs.planning.read_planning.Goals as goal

-- what pairs say, if there is one
abbrev said : List Pair → Option Planning
said ps = if not (is_empty ps) then Some (planned ps) else None

pub returns-in_err-first : goal.returns-in_err-first
returns-in_err-first c = record { value = c.from_residual.ensures ∙ sym (ap said c.in_err-first.ensures.value); inside = rw c.from_residual.ensures tt }

pub loop-pair-init : goal.loop-pair-init
loop-pair-init c =
    let line = c.args.line.now in
    let first = c.in_ok-first.first in
    let rest = pairs_from (drop first.end line) first.end 0 in
    let none : Planning = record { scheduled = None; deadline = None; closed = None } in
    record {
      in_line = c.in_ok-first.ensures.bound.1;
      left =
          ap (λ p. with_left p rest) c.with_pair-planning.ensures.value
          ∙ (one_more none first rest ∙ (none_yet (first ∷ rest) ∙ ap planned (sym c.in_ok-first.ensures.value)));
      inside = rw c.with_pair-planning.ensures.value (inside_more line none first c.in_ok-first.ensures.bound.2 (record { scheduled = tt; deadline = tt; closed = tt }));
    }

pub loop-pair-preserved : goal.loop-pair-preserved
loop-pair-preserved c =
    let line = c.args.line.now in
    let planning = c.loop-pair.planning in
    let pair = c.in-Some.pair in
    let rest = pairs_from (drop pair.end line) pair.end 0 in
    record {
      in_line = c.in-Some.ensures.bound.1;
      left =
          ap (λ p. with_left p rest) c.with_pair-planning-in-Some.ensures.value
          ∙ (one_more planning pair rest ∙ (ap (with_left planning) (sym c.in-Some.ensures.value) ∙ c.loop-pair.invariant.left));
      inside = rw c.with_pair-planning-in-Some.ensures.value (inside_more line planning pair c.in-Some.ensures.bound.2 c.loop-pair.invariant.inside);
    }

pub returns : goal.returns
returns c =
    let line = c.args.line.now in
    let first = c.in_ok-first.first in
    let some = c.in_ok-first.ensures.value in
    let all = ap (with_left c.loop-pair.planning) (sym c.in_default.ensures.value) ∙ c.loop-pair.invariant.left in
    record {
      value = ap Some (all ∙ ap planned some) ∙ sym (ap said some);
      inside = c.loop-pair.invariant.inside;
    }
