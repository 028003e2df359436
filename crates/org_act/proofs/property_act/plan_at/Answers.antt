-- The drawer stands below the planning line, or below the heading where there is none.
use Rattle.std.proofs.Common.{◌∙◌, ◌+◌, length, refl, sym}
use Rattle.org_act.proofs.ActLemmas.{makes_same}
use Rattle.org_act.proofs.LineLemmas.{rest_is}
use Rattle.org_act.proofs.PropertyActLemmas.{below_heading, below_planning}
use Rattle.org_act.specs.PropertyActs.{given_below, given_there}
use Rattle.org_act.proofs.property_act.plan_at.Goals as goal

pub returns-then-is_planning : goal.returns-then-is_planning
returns-then-is_planning c =
    let change = c.args.change.now in
    let text = c.args.text.now in
    let at = c.args.at in
    let h = c.first_line-heading.result.now in
    let below = at + length h in
    let line = c.first_line-line.result.now in
    let end = c.line_end.result.now in
    let same = below_planning change text at below h line end (rest_is at text h c.first_line-heading.ensures.value) refl (rest_is below text line c.first_line-line.ensures.value)
    (sym c.is_planning.ensures.value ∙ c.if-is_planning.true) c.line_end.ensures.value in
    record { value = makes_same c.plan_below.result text (given_below change text (below + length line) end) (given_there change text at) same c.plan_below.ensures.value }

pub returns-else-is_planning : goal.returns-else-is_planning
returns-else-is_planning c =
    let change = c.args.change.now in
    let text = c.args.text.now in
    let at = c.args.at in
    let h = c.first_line-heading.result.now in
    let below = at + length h in
    let line = c.first_line-line.result.now in
    let end = c.line_end-else-is_planning.result.now in
    let same = below_heading change text at below h line end (rest_is at text h c.first_line-heading.ensures.value) refl (rest_is below text line c.first_line-line.ensures.value)
    (sym c.is_planning.ensures.value ∙ c.if-is_planning.false) c.line_end-else-is_planning.ensures.value in
    record { value = makes_same c.plan_below-else-is_planning.result text (given_below change text below end) (given_there change text at) same c.plan_below-else-is_planning.ensures.value }
