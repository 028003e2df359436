-- The lines so far, but for the rows that wait, are written.
use Rattle.std.proofs.Common.{◌++◌, map, take}
use Rattle.std.specs.List.Sorted.{IsPermutation}
use Rattle.org_layout.specs.declared.shown.Line.TheVariants.{Row}
use Rattle.org_answer.proofs.arranging.sorted_lines.Given as goal

abbrev pub invariant-loop-line : goal.invariant-loop-line
invariant-loop-line l = IsPermutation (take l.line-index l.lines) (l.out.items ++ map Row l.rows.items)
