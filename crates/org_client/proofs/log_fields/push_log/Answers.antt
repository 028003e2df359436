-- What was found is what stands at the place.
use Rattle.std.proofs.Common.{◌∙◌, ◌++◌, ℕ, List, [], ap, subst, sym}
use Rattle.std.specs.Prelude.{Option}
use Rattle.org_inherit.specs.Headings.{IsFoundIn}
use Rattle.org_inherit.specs.declared.headings.Heading.{Heading as FoundHeading}
use Rattle.org_client.specs.LogFields.{heading_log}
use Rattle.org_client.specs.Report.{ReportView}
use Rattle.org_client.proofs.HeadingLemmas.{found_there}
use Rattle.org_client.proofs.log_fields.push_log.Goals as goal

pub returns-in_ok-push_found : goal.returns-in_ok-push_found
returns-in_ok-push_found g c =
    let row = c.args.row.now in
    let found = subst (λ (r : ReportView). IsFoundIn r.scopes row.file row.heading c.find.result) c.files.view_is c.find.ensures in
    let there = subst (λ (f : Option FoundHeading). IsFoundIn c.args.files.now.scopes row.file row.heading f) c.in-Some.is found in
    record {
      ok = c.in_ok-push_found.ensures.ok ∙ ap (λ (bytes : List ℕ). c.args.line.now ++ bytes) (sym (found_there [] (heading_log row.entry) c.args.files.now.scopes row.file row.heading c.in-Some.heading there));
    }
