-- The headings so far are asked about.
use Rattle.std.proofs.Common.{take}
use Rattle.org_client.specs.RowIds.{AreAsked}
use Rattle.org_client.proofs.asked.Asked.of.Given as goal

abbrev pub invariant-loop-heading : goal.invariant-loop-heading
invariant-loop-heading l = AreAsked l.files (take l.heading-index l.headings) l.asked
