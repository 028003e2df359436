use Rattle.std.proofs.Common.{arith}
use Rattle.org_sum.proofs.TextLemmas.{text_small}
use Rattle.org_sum.proofs.sums.whole_sum.Goals as goal

pub sum_of_all-requires-clause-fits : goal.sum_of_all-requires-clause-fits
sum_of_all-requires-clause-fits c = omega (arith, text_small c.args.measure.now c.args.outline.now c.is_of_calendar.ensures.within c.requires.text)

pub returns-clause-below : goal.returns-clause-below
returns-clause-below c = omega (arith, text_small c.args.measure.now c.args.outline.now c.is_of_calendar.ensures.within c.requires.text, c.sum_of_all.ensures.most)
