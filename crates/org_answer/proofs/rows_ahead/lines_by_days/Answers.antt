use Rattle.std.proofs.Common.{◌≡◌, ◌∙◌, ◌+◌, ◌++◌, ap, ap₂, sym}
use Rattle.org_answer.specs.Ahead.{lines_under, rows_on}
use Rattle.org_answer.proofs.AheadLemmas.{adds_lines}
use Rattle.org_answer.proofs.rows_ahead.lines_by_days.Goals as goal

-- a day and its rows come after those before it
pub loop-ahead-preserved : goal.loop-ahead-preserved
loop-ahead-preserved c =
    let all = c.args.all.now in
    let first = c.args.agenda.now.first in
    let n = c.loop-ahead.ahead in
    let day : c.day-day.result ≡ first + n = c.day-day.ensures.value in
    let rows : c.as_slice.result.now ≡ rows_on all (first + n) = c.as_slice.ensures.value ∙ c.in_ok-rows.ensures ∙ ap (rows_on all) day in
    c.in_ok-push_day.ensures ∙ ap₂ (λ t s. t ++ s) c.loop-ahead.invariant (ap₂ lines_under day rows) ∙ sym (adds_lines all first n)
