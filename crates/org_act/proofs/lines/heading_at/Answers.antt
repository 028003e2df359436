-- The line is the first of those that are left, and where it isn't the one, the heading is among the later ones.
use Rattle.std.proofs.Common.{◌≡◌, ◌∙◌, ◌+◌, ◌-◌, ◌≤◌, ◌==◌, true, false, length, drop, sym, ap, arith, length-drop}
use Rattle.std.specs.Prelude.{Some, None}
use Rattle.org_act.proofs.LineLemmas.{heading_more, heading_none, if_false, if_true, is_one, is_other, rest_is, rest_within}
use Rattle.org_act.specs.Lines.{heading_at, heading_from, if_heading}
use Rattle.org_class.specs.Heading.{begins_heading}
use Rattle.org_lines.specs.Cuts.{lines}
use Rattle.org_act.proofs.lines.heading_at.Goals as goal

pub returns-then-begins_heading-clause-value : goal.returns-then-begins_heading-clause-value
returns-then-begins_heading-clause-value c =
    let text = c.args.text.now in
    let at = c.loop-at.at in
    let left = c.loop-at.left in
    let line = c.first_line-line.result.now in
    let whole = heading_at text c.args.number in
    let step = heading_more left at text line whole c.loop-at-test.true (rest_is at text line c.first_line-line.ensures.value) c.loop-at.invariant.all in
    let here = if_true (left == 1) (if_heading line at) (heading_from (left - 1) (at + length line) (lines (drop (at + length line) text))) whole (is_one left c.if-left-eq1.true) step in
    let begins : begins_heading line ≡ true = sym c.begins_heading.ensures.value ∙ c.if-begins_heading.true in
    if_true (begins_heading line) (Some at) None whole begins here

pub returns-else-begins_heading-clause-value : goal.returns-else-begins_heading-clause-value
returns-else-begins_heading-clause-value c =
    let text = c.args.text.now in
    let at = c.loop-at.at in
    let left = c.loop-at.left in
    let line = c.first_line-line.result.now in
    let whole = heading_at text c.args.number in
    let step = heading_more left at text line whole c.loop-at-test.true (rest_is at text line c.first_line-line.ensures.value) c.loop-at.invariant.all in
    let here = if_true (left == 1) (if_heading line at) (heading_from (left - 1) (at + length line) (lines (drop (at + length line) text))) whole (is_one left c.if-left-eq1.true) step in
    let begins : begins_heading line ≡ false = sym c.begins_heading.ensures.value ∙ c.if-begins_heading.false in
    if_false (begins_heading line) (Some at) None whole begins here

pub loop-at-preserved : goal.loop-at-preserved
loop-at-preserved c =
    let text = c.args.text.now in
    let at = c.loop-at.at in
    let left = c.loop-at.left in
    let line = c.first_line-line.result.now in
    let whole = heading_at text c.args.number in
    let step = heading_more left at text line whole c.loop-at-test.true (rest_is at text line c.first_line-line.ensures.value) c.loop-at.invariant.all in
    let later = if_false (left == 1) (if_heading line at) (heading_from (left - 1) (at + length line) (lines (drop (at + length line) text))) whole (is_other left c.if-left-eq1.false) step in
    let size : length (drop at text) ≡ length text - at = length-drop at text in
    let short : length line ≤ length (drop at text) = rest_within at text line c.first_line-line.ensures.within in
    record {
      within = omega (arith, size, short, c.loop-at.invariant.within);
      all = ap (λ n. heading_from n (at + length line) (lines (drop (at + length line) text))) c.saturating_sub-left.ensures ∙ later;
    }

pub returns-clause-value : goal.returns-clause-value
returns-clause-value c = heading_none c.loop-at.left c.loop-at.at c.args.text.now (heading_at c.args.text.now c.args.number) c.loop-at-test.false c.loop-at.invariant.all
