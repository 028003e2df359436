use Rattle.std.proofs.Common.{◌≡◌, ◌∙◌, [], ap, sym}
use Rattle.std.specs.Prelude.{fold}
use Rattle.org_agenda.specs.Days.{day_rows}
use Rattle.org_client.specs.Next.{with_day, with_row}
use Rattle.org_client.proofs.NextLemmas.{days_next}
use Rattle.org_client.proofs.next.next_rows.Goals as goal

pub loop-ahead-preserved : goal.loop-ahead-preserved
loop-ahead-preserved c =
    let a = c.args.agenda.now in
    let rows : c.as_slice.result.now ≡ day_rows a.profile a.sources a.today c.day.result =
    c.as_slice.ensures.value ∙ c.in_ok-rows.ensures.value ∙ ap (day_rows a.profile a.sources a.today) (sym c.day.ensures.value) in
    record {
      value = days_next (with_day c.args.now.now a) [] _ c.loop-ahead.next.items a.first c.loop-ahead.ahead c.day.result c.day.ensures.value c.loop-ahead.invariant.value
          (c.in_ok-push_day.ensures.value ∙ ap (fold (with_row c.args.now.now c.day.result) c.loop-ahead.next.items) rows);
      known = c.in_ok-push_day.ensures.known;
    }
