use Rattle.std.proofs.Common.{◌≡◌, ◌≤◌, take}
use Rattle.std.specs.List.{sum_by}
use Rattle.org_sequence.specs.Sums.{amount_in}
use Rattle.org_sequence.proofs.search.find_in.Given as goal

abbrev pub invariant-loop-at : goal.invariant-loop-at
invariant-loop-at g l = record { counted : l.before ≡ sum_by (amount_in g.T.Measured.size g.T.Measured.lines l.measure) (take l.at l.items); begun : l.before ≤ l.place }
