use Rattle.std.proofs.Common.{length}
use Rattle.org_sequence.proofs.join.+build.Given as goal

abbrev pub decreases-build : goal.decreases-build
decreases-build g l = length l.items.now
