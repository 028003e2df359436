-- Stars alone stand between the places.
use Rattle.std.proofs.Common.{◌-◌, ◌≤◌, take}
use Rattle.org_class.proofs.AtLemmas.{AreStars}
use Rattle.org_class.proofs.at.has_heading_in.Given as goal

abbrev pub invariant-loop-place : goal.invariant-loop-place
invariant-loop-place g l = record {
  within : l.place ≤ l.end;
  stars : AreStars (take l.end (g.T.Text.content l.text)) l.at l.place;
}

abbrev pub decreases-loop-place : goal.decreases-loop-place
decreases-loop-place g l = l.end - l.place
