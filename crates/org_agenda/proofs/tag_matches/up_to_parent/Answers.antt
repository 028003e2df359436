-- The parent stands earlier.
use Rattle.std.proofs.Common.{arith, sym}
use Rattle.org_outline.proofs.Chain.{parent_earlier}
use Rattle.org_outline.specs.Levels.{levels}
use Rattle.org_agenda.proofs.tag_matches.up_to_parent.Goals as goal

pub overflow_add-result : goal.overflow_add-result
overflow_add-result c =
    let before = parent_earlier (levels c.args.outline.now) c.args.place c.in-Some.parent (sym c.in-Some.ensures.value) in
    omega (arith, before, c.ranges.place)
