use Rattle.std.proofs.Common.{take}
use Rattle.org_sequence.specs.Sums.{AreSums}
use Rattle.org_sequence.proofs.sums.sums_of.Given as goal

abbrev pub invariant-loop-item : goal.invariant-loop-item
invariant-loop-item g l = AreSums g.T.Measured.size g.T.Measured.lines g.T.Measured.pending g.T.Measured.flagged (take l.item-index l.items) l.sums
