-- One line more; after the last, what was said is what all lines say.
use Rattle.std.proofs.Common.{◌∙◌, ◌≤◌, ap, sym, arith, length}
use Rattle.std.proofs.lemmas.List.{drop_all}
use Rattle.org_settings.specs.Draft.{with_lines, into_settings}
use Rattle.org_settings.proofs.DraftLemmas.{line_more, lines_settle}
use Rattle.org_settings.proofs.settings.Settings.of_lines.Goals as goal

pub loop-place-preserved : goal.loop-place-preserved
loop-place-preserved c = line_more c.loop-place.said _ _ c.args.lines.now c.loop-place.place _ (omega arith) c.get.ensures.value c.in_ok-add.ensures.ok c.loop-place.invariant

pub returns-clause-value : goal.returns-clause-value
returns-clause-value c =
    let lines = c.args.lines.now in
    let past : length lines ≤ c.loop-place.place = omega arith in
    let all = ap (with_lines c.loop-place.said) (sym (drop_all c.loop-place.place lines past)) ∙ c.loop-place.invariant in
    c.in_ok-into_settings.ensures.value ∙ ap into_settings all ∙ lines_settle lines
