-- What was read is right, and as many were counted as are no longer pending.
use Rattle.std.proofs.Common.{◌≤◌}
use Rattle.std.specs.List.{count_by}
use Rattle.org_store.specs.File.{AllSay, AreOf}
use Rattle.org_store.specs.Sections.{is_pending}
use Rattle.org_store.proofs.SingleLemmas.{HaveRead}
use Rattle.org_store.proofs.read.read_singly.Given as goal

abbrev pub invariant-loop-place : goal.invariant-loop-place
invariant-loop-place g l = record {
  kept : AreOf (g.T.Text.content l.context.text.now) l.read;
  says : AllSay l.context.settings.now (g.T.Text.content l.context.text.now) l.read;
  few : count_by is_pending l.read ≤ count_by is_pending l.fn.sections;
  counts : HaveRead l.fn.sections l.read l.fn.meter l.meter;
}

abbrev pub decreases-loop-place : goal.decreases-loop-place
decreases-loop-place g l = count_by is_pending l.read
