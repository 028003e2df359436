use Rattle.org_client.specs.KeptHeadings.{AreKept}
use Rattle.org_client.proofs.kept_headings.push_file.Given as goal

abbrev pub invariant-loop-heading : goal.invariant-loop-heading
invariant-loop-heading l = AreKept l.inherits l.kept.items
