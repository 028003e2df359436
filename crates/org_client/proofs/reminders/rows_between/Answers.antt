use Rattle.std.proofs.Common.{◌≡◌, ◌∙◌, ◌++◌, ap, sym}
use Rattle.org_agenda.specs.Days.{day_rows}
use Rattle.org_client.specs.Reminders.{day_between}
use Rattle.org_client.proofs.ReminderLemmas.{days_more}
use Rattle.org_client.proofs.reminders.rows_between.Goals as goal

pub loop-ahead-preserved : goal.loop-ahead-preserved
loop-ahead-preserved c =
    let a = c.args.agenda.now in
    let w = c.args.window.now in
    let rows : c.as_slice.result.now ≡ day_rows a.profile a.sources a.today c.day.result =
    c.as_slice.ensures.value ∙ c.in_ok-rows.ensures.value ∙ ap (day_rows a.profile a.sources a.today) (sym c.day.ensures.value) in
    days_more (λ day. day_between w.after w.until day (day_rows a.profile a.sources a.today day)) c.loop-ahead.between.items _ a.first c.loop-ahead.ahead c.day.result c.day.ensures.value c.loop-ahead.invariant
    (c.in_ok-push_between.ensures.value ∙ ap (λ rs. c.loop-ahead.between.items ++ day_between w.after w.until c.day.result rs) rows)
