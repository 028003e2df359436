use Rattle.std.proofs.Common.{◌≡◌, take, drop}
use Rattle.std.specs.List.{count_by}
use Rattle.org_sequence.specs.Sums.{bears}
use Rattle.org_sequence.proofs.search.first_in.Given as goal

abbrev pub invariant-loop-at : goal.invariant-loop-at
invariant-loop-at g l = count_by (bears g.T.Measured.pending g.T.Measured.flagged l.sign) (take l.at (drop l.from l.items)) ≡ 0
