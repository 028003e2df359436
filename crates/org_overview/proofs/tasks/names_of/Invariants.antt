-- Those so far.
use Rattle.std.proofs.Common.{◌≡◌, [], take}
use Rattle.std.specs.Prelude.{fold}
use Rattle.org_overview.specs.Tasks.{adds_word, keyword_at}
use Rattle.org_overview.proofs.tasks.names_of.Given as goal

abbrev pub invariant-loop-row : goal.invariant-loop-row
invariant-loop-row l = l.names ≡ fold (λ names row. adds_word names (keyword_at l.inherits row)) [] (take l.row-index l.rows)
