use Rattle.std.proofs.Common.{arith}
use Rattle.org_sum.proofs.TextLemmas.{text_small}
use Rattle.org_sum.specs.declared.measure.Measure.TheVariants.{Efforts}
use Rattle.org_sum.proofs.sums.effort_sums.Goals as goal

pub subtree_sums-requires-clause-fits : goal.subtree_sums-requires-clause-fits
subtree_sums-requires-clause-fits c = omega (arith, text_small Efforts c.args.outline.now c.is_of_calendar.ensures.within c.requires.text)
