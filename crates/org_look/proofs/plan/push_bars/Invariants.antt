-- The bars so far, and those of the rows that are left.
use Rattle.std.proofs.Common.{◌≡◌, ◌++◌, drop, map}
use Rattle.org_look.specs.Ranges.{bar_of, bars_for}
use Rattle.org_look.proofs.plan.push_bars.Given as goal

abbrev pub invariant-loop-entry : goal.invariant-loop-entry
invariant-loop-entry l =
    map bar_of l.bars.items ++ bars_for l.column (drop l.entry-index l.entries) l.more ≡ map bar_of l.fn.bars.items ++ bars_for l.column l.entries l.more
