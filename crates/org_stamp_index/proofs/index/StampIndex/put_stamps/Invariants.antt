use Rattle.std.proofs.Common.{take}
use Rattle.org_stamp_index.specs.Index.{HasPut}
use Rattle.org_stamp_index.proofs.index.StampIndex.put_stamps.Given as goal

abbrev pub invariant-loop-stamp : goal.invariant-loop-stamp
invariant-loop-stamp l = HasPut l.place (take l.stamp-index l.stamps) l.fn.self l.self
