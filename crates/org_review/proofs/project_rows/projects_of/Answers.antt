use Rattle.std.proofs.Common.{◌<◌, arith, length}
use Rattle.org_clocktable.proofs.CountLemmas.{one_text}
use Rattle.org_review.proofs.project_rows.projects_of.Goals as goal

pub file_tasks-requires : goal.file_tasks-requires
file_tasks-requires c =
    let within : c.loop-file.file < length c.args.inherits.now = omega (arith, c.count-file-end.ensures.value) in
    record { text = one_text c.args.inherits.now c.loop-file.file c.get.result.now c.requires.read.texts within c.get.ensures.value }
