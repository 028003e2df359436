-- The lines so far, and the first rows of those that are left, are the first rows of all.
use Rattle.std.proofs.Common.{◌≡◌, ◌++◌, take, drop}
use Rattle.org_answer.specs.Limits.{first_rows}
use Rattle.org_answer.proofs.limits.first_rows.Given as goal

abbrev pub invariant-loop-place : goal.invariant-loop-place
invariant-loop-place l = take l.place l.lines ++ first_rows l.left (drop l.place l.lines) ≡ first_rows l.rows l.lines
