-- The bars so far, and those of the days that are left.
use Rattle.std.proofs.Common.{◌≡◌, ◌++◌, drop, map}
use Rattle.org_look.specs.Ranges.{bar_of, bars_from}
use Rattle.org_look.proofs.plan.bars_of.Given as goal

abbrev pub invariant-loop-column : goal.invariant-loop-column
invariant-loop-column l = map bar_of l.bars.items ++ bars_from l.column (drop l.column l.days) ≡ bars_from 0 l.days
