use Rattle.org_client.specs.HeadingMembers.{details_members_of, heading_members_of}
use Rattle.org_client.proofs.PutLemmas.{puts_after}
use Rattle.org_client.proofs.row_members.put_whole.Goals as goal

pub returns : goal.returns
returns c =
    let only = c.args.to.now.only in
    let heading = c.args.heading.now in
    record {
      ok = puts_after c.put_details.result c.args.to.now c.put_heading.new.to c.put_details.new.to (heading_members_of only heading) (λ only. details_members_of only heading)
          c.in_ok-put_heading.ensures.ok c.put_details.ensures.ok;
    }
