-- No section of the files so far is still to be read.
use Rattle.std.proofs.Common.{◌≡◌, take}
use Rattle.org_engine.specs.Marks.{pending_in}
use Rattle.org_engine.proofs.world.World.first_pending.Given as goal

abbrev pub invariant-loop-place : goal.invariant-loop-place
invariant-loop-place g l = pending_in (take l.place l.self.marks) ≡ 0
