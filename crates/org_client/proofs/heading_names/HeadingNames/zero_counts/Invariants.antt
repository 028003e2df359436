-- The names so far are asked about, and none came.
use Rattle.std.proofs.Common.{take}
use Rattle.org_client.specs.HeadingNames.{AreAskedAt}
use Rattle.org_ids.specs.Counts.{NoneCame}
use Rattle.org_client.proofs.heading_names.HeadingNames.zero_counts.Given as goal

abbrev pub invariant-loop-section : goal.invariant-loop-section
invariant-loop-section l = record {
  none : NoneCame l.counts;
  asked : AreAskedAt l.counts l.self (take l.section-index l.sections);
}
