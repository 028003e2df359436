-- The names so far came.
use Rattle.std.proofs.Common.{take}
use Rattle.org_ids.specs.Counts.{CameThese}
use Rattle.org_client.proofs.heading_names.HeadingNames.count_all.Given as goal

abbrev pub invariant-loop-place : goal.invariant-loop-place
invariant-loop-place l = CameThese l.fn.counts l.counts (take l.place l.self.names)
