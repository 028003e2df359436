-- The lanes before this one aren't free.
use Rattle.std.proofs.Common.{◌≡◌, ◌+◌, drop}
use Rattle.org_look.specs.FreeLanes.{free_lane}
use Rattle.org_look.proofs.lanes.free_lane.Given as goal

abbrev pub invariant-loop-lane : goal.invariant-loop-lane
invariant-loop-lane l = l.lane + free_lane (drop l.lane l.free) l.day ≡ free_lane l.free l.day
