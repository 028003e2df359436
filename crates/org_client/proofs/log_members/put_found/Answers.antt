use Rattle.std.proofs.Common.{◌≡◌, ◌++◌, subst}
use Rattle.org_settings.specs.Settings.{FileSettings}
use Rattle.org_client.specs.HeadingMembers.{whole_members_of}
use Rattle.org_client.specs.LogMembers.{change_members}
use Rattle.org_client.proofs.PutLemmas.{puts_after}
use Rattle.org_client.proofs.log_members.put_found.Goals as goal

pub returns : goal.returns
returns c =
    let old = c.args.to.now in
    let heading = c.args.heading.now in
    let event = c.args.event in
    let change_put = subst (λ (s : FileSettings). c.put_change.new.to ≡ record { only = old.only; bytes = old.bytes ++ change_members old.only s.keywords event }) c.settings.ensures.value c.in_ok-put_change.ensures.ok in
    record {
      ok = puts_after c.put_whole.result old c.put_change.new.to c.put_whole.new.to (change_members old.only heading.inherit.now.settings.keywords event) (λ only. whole_members_of only heading) change_put c.put_whole.ensures.ok;
    }
