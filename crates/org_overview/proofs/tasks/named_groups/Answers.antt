use Rattle.org_overview.specs.Groups.{named_marks}
use Rattle.org_overview.specs.Marks.{marks_of}
use Rattle.org_overview.specs.Tasks.{rows_with}
use Rattle.org_overview.proofs.TaskLemmas.{group_more}
use Rattle.org_overview.proofs.tasks.named_groups.Goals as goal

pub loop-place-preserved : goal.loop-place-preserved
loop-place-preserved g c =
    let files = c.args.seen.now.files.now.files in
    let scopes = c.args.seen.now.scopes.now in
    let rows = c.args.rows.now in
    group_more (λ word. marks_of files (rows_with scopes word rows)) c.args.names.now c.loop-place.place c.get.result.now c.loop-place.groups.items c.push.new.self.items c.in_ok-group.group
    (named_marks files scopes rows c.args.names.now) c.get.ensures.value c.in_ok-group.ensures.value c.in_ok-push.ensures.items c.loop-place.invariant
