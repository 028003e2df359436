-- What is kept so far, and what is kept of the rest, is what is kept of all.
use Rattle.std.proofs.Common.{◌≡◌, ◌++◌, ◌≤◌, ◌-◌, length, drop}
use Rattle.org_amend.specs.Planning.{kept_from}
use Rattle.org_stamp.specs.Pair.{pairs, pairs_from}
use Rattle.org_amend.proofs.keyword_pairs.kept_pairs.Given as goal

abbrev pub invariant-loop-pair : goal.invariant-loop-pair
invariant-loop-pair l = record {
  in_line : l.at ≤ length l.line;
  all : l.kept.items ++ kept_from l.keyword l.line l.at (pairs_from (drop l.at l.line) l.at 0) ≡ kept_from l.keyword l.line 0 (pairs l.line);
}

abbrev pub decreases-loop-pair : goal.decreases-loop-pair
decreases-loop-pair l = length l.line - l.at
