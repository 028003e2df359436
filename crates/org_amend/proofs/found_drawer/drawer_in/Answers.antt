use Rattle.std.proofs.Common.{◌∙◌, ◌≡◌, [], ◌∷◌, ◌++◌, sym, ap}
use Rattle.org_amend.proofs.FoundLemmas.{end_found, first_goes, first_long, from_place, longer, node_goes, none_found, stays_within}
use Rattle.org_amend.proofs.found_drawer.drawer_in.Goals as goal

pub loop-at-init : goal.loop-at-init
loop-at-init c =
    let opening = c.first_line-opening.result.now in
    let one : c.push.new.self ≡ opening ∷ [] = c.in_ok-push.ensures.ok ∙ ap (λ ls. ls ++ opening ∷ []) c.new-lines.ensures.value in
    record {
      within = c.first_line-opening.ensures.within;
      so_far = first_long opening c.push.new.self one;
      all = first_goes c.args.text.now opening c.push.new.self c.first_line-opening.ensures.value (sym c.is_drawer_open.ensures.value ∙ c.if-not-is_drawer_open.false) one;
    }

pub returns-then-is_drawer_end-clause-value : goal.returns-then-is_drawer_end-clause-value
returns-then-is_drawer_end-clause-value c =
    let line = c.first_line-line.result.now in
    let new = c.push-in-loop-at.new.self in (
      end_found c.args.text.now line c.loop-at.at c.loop-at.lines new _ c.loop-at-test.true (from_place c.args.text.now c.first_line-line.result.now c.loop-at.at c.first_line-line.ensures.value) c.in_ok-push-2.ensures.ok c.loop-at.invariant.all (sym c.is_drawer_end.ensures.value ∙ c.if-is_drawer_end.true),
      longer line c.loop-at.at c.loop-at.lines new c.loop-at.invariant.so_far c.in_ok-push-2.ensures.ok,
      stays_within c.args.text.now line c.loop-at.at c.loop-at-test.true c.first_line-line.ensures.within,
    )

pub returns-then-not-is_node-clause-value : goal.returns-then-not-is_node-clause-value
returns-then-not-is_node-clause-value c =
    none_found c.args.text.now c.first_line-line.result.now c.loop-at.at c.loop-at.lines c.push-in-loop-at.new.self _ c.loop-at-test.true (from_place c.args.text.now c.first_line-line.result.now c.loop-at.at c.first_line-line.ensures.value) c.in_ok-push-2.ensures.ok c.loop-at.invariant.all
    (sym c.is_drawer_end.ensures.value ∙ c.if-is_drawer_end.false) (sym c.is_node.ensures.value ∙ c.if-not-is_node.true)

pub loop-at-preserved : goal.loop-at-preserved
loop-at-preserved c =
    let line = c.first_line-line.result.now in
    let new = c.push-in-loop-at.new.self in
    record {
      within = stays_within c.args.text.now line c.loop-at.at c.loop-at-test.true c.first_line-line.ensures.within;
      so_far = longer line c.loop-at.at c.loop-at.lines new c.loop-at.invariant.so_far c.in_ok-push-2.ensures.ok;
      all = node_goes c.args.text.now line c.loop-at.at c.loop-at.lines new _ c.loop-at-test.true (from_place c.args.text.now c.first_line-line.result.now c.loop-at.at c.first_line-line.ensures.value) c.in_ok-push-2.ensures.ok c.loop-at.invariant.all
          (sym c.is_drawer_end.ensures.value ∙ c.if-is_drawer_end.false) (sym c.is_node.ensures.value ∙ c.if-not-is_node.false);
    }
