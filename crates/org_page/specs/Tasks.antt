-- The titles of tasks.
use Rattle.std.specs.Prelude.{ℕ, List, map}
use Rattle.std.specs.List.{flat_map}
use Rattle.org_page.specs.Rows.{row_title}
use Rattle.org_page.specs.declared.task.Task.{Task}
use Rattle.org_page.specs.declared.task.TaskGroup.{TaskGroup}

abbrev pub tasks_titles : List Task → List (List ℕ × List ℕ)
tasks_titles tasks = map (λ task. row_title task.row) tasks

abbrev pub group_titles : TaskGroup → List (List ℕ × List ℕ)
group_titles group = tasks_titles group.tasks.items

abbrev pub groups_titles : List TaskGroup → List (List ℕ × List ℕ)
groups_titles groups = flat_map group_titles groups
