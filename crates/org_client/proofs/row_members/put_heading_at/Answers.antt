use Rattle.std.proofs.Common.{◌∙◌, ◌++◌, ℕ, List, [], ap, subst, sym}
use Rattle.std.specs.Prelude.{Option}
use Rattle.org_inherit.specs.Headings.{IsFoundIn}
use Rattle.org_inherit.specs.declared.headings.Heading.{Heading as FoundHeading}
use Rattle.org_client.specs.HeadingMembers.{heading_members}
use Rattle.org_client.specs.Report.{ReportView}
use Rattle.org_client.proofs.HeadingLemmas.{found_there}
use Rattle.org_client.proofs.row_members.put_heading_at.Goals as goal

pub returns-in_ok-put_heading : goal.returns-in_ok-put_heading
returns-in_ok-put_heading g c =
    let only = c.args.to.now.only in
    let file = c.args.file in
    let place = c.args.place in
    let found = subst (λ (r : ReportView). IsFoundIn r.scopes file place c.find.result) c.files.view_is c.find.ensures in
    let there = subst (λ (f : Option FoundHeading). IsFoundIn c.args.files.now.scopes file place f) c.in-Some.is found in
    record {
      ok = c.in_ok-put_heading.ensures.ok ∙ ap (λ (bytes : List ℕ). record { only = only; bytes = c.args.to.now.bytes ++ bytes }) (sym (found_there [] (heading_members only) c.args.files.now.scopes file place c.in-Some.heading there));
    }
