-- What is written, and the lines of the rows that are left.
use Rattle.std.proofs.Common.{◌≡◌, ◌++◌, drop, map}
use Rattle.org_answer.specs.Arranged.{ranked_line}
use Rattle.org_answer.proofs.arranging.push_rows.Given as goal

abbrev pub invariant-loop-row : goal.invariant-loop-row
invariant-loop-row l = l.out.items ++ map ranked_line (drop l.row-index l.ranked) ≡ l.fn.out.items ++ map ranked_line l.ranked
