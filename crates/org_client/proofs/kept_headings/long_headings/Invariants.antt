use Rattle.org_client.specs.KeptHeadings.{AreKept}
use Rattle.org_client.proofs.kept_headings.long_headings.Given as goal

abbrev pub invariant-loop-file : goal.invariant-loop-file
invariant-loop-file l = AreKept l.inherits l.kept.items
