-- Those of the rows so far.
use Rattle.std.proofs.Common.{◌≡◌, map, take}
use Rattle.org_answer.proofs.arranging.ranked_rows.Given as goal

abbrev pub invariant-loop-shown : goal.invariant-loop-shown
invariant-loop-shown l = map (λ r. r.row) l.ranked.items ≡ take l.shown-index l.rows
