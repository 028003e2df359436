use Rattle.std.proofs.Common.{◌≡◌, ◌++◌, drop}
use Rattle.org_page.specs.Pieces.{titles_of}
use Rattle.org_page.specs.Tasks.{tasks_titles}
use Rattle.org_page.proofs.task.put_rows.Given as goal

abbrev pub invariant-loop-task : goal.invariant-loop-task
invariant-loop-task l = titles_of l.draft.pieces.items ++ tasks_titles (drop l.task-index l.tasks) ≡ titles_of l.fn.draft.pieces.items ++ tasks_titles l.tasks
