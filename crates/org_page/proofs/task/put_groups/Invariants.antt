use Rattle.std.proofs.Common.{◌≡◌, ◌++◌, drop}
use Rattle.org_page.specs.Pieces.{titles_of}
use Rattle.org_page.specs.Tasks.{groups_titles}
use Rattle.org_page.proofs.task.put_groups.Given as goal

abbrev pub invariant-loop-group : goal.invariant-loop-group
invariant-loop-group l = titles_of l.draft.pieces.items ++ groups_titles (drop l.group-index l.groups) ≡ titles_of l.fn.draft.pieces.items ++ groups_titles l.groups
