-- Each word leaves less.
use Rattle.std.proofs.Common.{length}
use Rattle.org_check.proofs.stamp_kind.words_kind.Given as goal

abbrev pub decreases-loop-rest : goal.decreases-loop-rest
decreases-loop-rest l = length l.rest
