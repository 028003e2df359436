-- The subtree ends before the first heading line that isn't deeper.
use Rattle.std.proofs.Common.{◌≡◌, ◌∙◌, ℕ, ◌+◌, ◌-◌, ◌≤◌, ◌<◌, ◌&&◌, true, false, length, drop, sym, subst, arith, length-drop}
use Rattle.std.specs.Prelude.{nat_le}
use Rattle.org_act.proofs.LineLemmas.{above_level, if_false, if_true, no_heading_line, rest_is, rest_within, subtree_more, subtree_none, within_level}
use Rattle.org_act.specs.Lines.{subtree_end}
use Rattle.org_class.specs.Heading.{begins_heading, stars}
use Rattle.org_lines.specs.Cuts.{lines}
use Rattle.org_act.proofs.lines.subtree_end.Goals.{else-begins_heading-via-then-begins_heading+else-leading_stars-level, else-begins_heading-via-else-begins_heading}
use Rattle.org_act.proofs.lines.subtree_end.Goals as goal

pub returns-then-leading_stars-level-clause-value : goal.returns-then-leading_stars-level-clause-value
returns-then-leading_stars-level-clause-value c =
    let text = c.args.text.now in
    let at = c.loop-at.at in
    let line = c.first_line-line.result.now in
    let level = c.args.level in
    let whole = subtree_end level c.args.from (lines (drop c.args.from text)) in
    let step = subtree_more level at text line whole c.loop-at-test.true (rest_is at text line c.first_line-line.ensures.value) c.loop-at.invariant.all in
    let begins : begins_heading line ≡ true = sym c.begins_heading.ensures.value ∙ c.if-begins_heading.true in
    let few : stars line ≤ level = subst (λ (s : ℕ). s ≤ level) c.leading_stars.ensures.value c.if-leading_stars-level.true in
    if_true (begins_heading line && nat_le (stars line) level) at (subtree_end level (at + length line) (lines (drop (at + length line) text))) whole
    (within_level (begins_heading line) (stars line) level begins few) step

pub loop-at-preserved : goal.loop-at-preserved
loop-at-preserved c =
    let text = c.args.text.now in
    let at = c.loop-at.at in
    let line = c.first_line-line.result.now in
    let level = c.args.level in
    let whole = subtree_end level c.args.from (lines (drop c.args.from text)) in
    let step = subtree_more level at text line whole c.loop-at-test.true (rest_is at text line c.first_line-line.ensures.value) c.loop-at.invariant.all in
    let size : length (drop at text) ≡ length text - at = length-drop at text in
    let short : length line ≤ length (drop at text) = rest_within at text line c.first_line-line.ensures.within in
    let test : (begins_heading line && nat_le (stars line) level) ≡ false = elim c.else-begins_heading.branch [
      | else-begins_heading-via-then-begins_heading+else-leading_stars-level w ↦
          above_level (begins_heading line) (stars line) level (sym c.begins_heading.ensures.value ∙ w.if-begins_heading.true)
          (subst (λ (s : ℕ). level < s) w.leading_stars.ensures.value w.if-leading_stars-level.false)
      | else-begins_heading-via-else-begins_heading w ↦ no_heading_line (begins_heading line) (stars line) level (sym c.begins_heading.ensures.value ∙ w.if-begins_heading.false)
    ] in
    record {
      within = omega (arith, size, short, c.loop-at.invariant.within);
      all = if_false (begins_heading line && nat_le (stars line) level) at (subtree_end level (at + length line) (lines (drop (at + length line) text))) whole test step;
    }

pub returns-clause-value : goal.returns-clause-value
returns-clause-value c = subtree_none c.args.level c.loop-at.at c.args.text.now (subtree_end c.args.level c.args.from (lines (drop c.args.from c.args.text.now))) c.loop-at-test.false c.loop-at.invariant.all
