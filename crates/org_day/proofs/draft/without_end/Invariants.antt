-- What is left can be shown.
use Rattle.org_day.specs.Lines.{AreShown}
use Rattle.org_day.proofs.draft.without_end.Given as goal

abbrev pub invariant-loop-span : goal.invariant-loop-span
invariant-loop-span l = AreShown l.spans.items
