use Rattle.org_client.specs.RowMembers.{minutes_members, of_members, step_members}
use Rattle.org_client.proofs.PutLemmas.{puts_three}
use Rattle.org_client.proofs.row_members.put_sum.Goals as goal

pub returns : goal.returns
returns g c =
    let files = c.args.files.now in
    let shown = c.args.shown.now in
    record {
      ok = puts_three c.put_of.result c.args.to.now _ _ c.put_of.new.to (step_members c.args.to.now.only shown) (λ only. minutes_members only shown.row) (λ only. of_members only files shown.row.of)
          c.in_ok-put_step.ensures.ok c.in_ok-put_minutes.ensures.ok c.put_of.ensures.ok;
    }
