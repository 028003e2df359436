-- The bars so far, and those of the lengths that are left.
use Rattle.std.proofs.Common.{◌≡◌, ◌++◌, drop, map}
use Rattle.std.specs.List.{flat_map}
use Rattle.org_look.specs.Ranges.{bar_of, bars_for}
use Rattle.org_look.proofs.plan.push_lengths.Given as goal

abbrev pub invariant-loop-more : goal.invariant-loop-more
invariant-loop-more l =
    map bar_of l.bars.items ++ flat_map (bars_for l.column l.entries) (drop l.more-index l.lengths)
    ≡ map bar_of l.fn.bars.items ++ flat_map (bars_for l.column l.entries) l.lengths
