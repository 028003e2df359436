use Rattle.std.proofs.Common.{◌≡◌, map, take}
use Rattle.org_stamp_index.specs.Index.{kept_of}
use Rattle.org_stamp_index.proofs.alike.are_alike.Given as goal

abbrev pub invariant-loop-place : goal.invariant-loop-place
invariant-loop-place l = map (kept_of l.fn.profile) (take l.place l.stamps) ≡ map (kept_of l.fn.profile) (take l.place l.others)
