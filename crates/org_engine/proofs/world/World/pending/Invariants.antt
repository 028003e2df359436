-- So many sections of the files so far are still to be read.
use Rattle.std.proofs.Common.{◌≡◌, ◌*◌, ◌≤◌, take}
use Rattle.org_engine.specs.Marks.{pending_in}
use Rattle.org_engine.proofs.world.World.pending.Given as goal

abbrev pub invariant-loop-place : goal.invariant-loop-place
invariant-loop-place g l = record {
  sum : l.pending ≡ pending_in (take l.place l.self.marks);
  small : l.pending ≤ l.place * 4_294_967_295;
}
