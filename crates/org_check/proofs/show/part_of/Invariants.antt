-- What was copied so far is the front of the part.
use Rattle.std.proofs.Common.{◌≡◌, ◌-◌, ◌≤◌, take, drop}
use Rattle.org_check.proofs.show.part_of.Given as goal

abbrev pub invariant-loop-here : goal.invariant-loop-here
invariant-loop-here g l = record {
  from : l.at ≤ l.here;
  within : l.here ≤ l.end;
  copied : l.out ≡ take (l.here - l.at) (drop l.at (g.T.Text.content l.text));
}

abbrev pub decreases-loop-here : goal.decreases-loop-here
decreases-loop-here g l = l.end - l.here
