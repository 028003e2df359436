use Rattle.std.proofs.Common.{List, subst, sym}
use Rattle.org_entry.specs.declared.entry.Entry.{Entry}
use Rattle.org_sum.specs.Texts.{AreOfText}
use Rattle.org_measure.proofs.day_calls.are_summed.Goals as goal

pub clock_sums-requires-clause-text : goal.clock_sums-requires-clause-text
clock_sums-requires-clause-text c = subst (λ (es : List Entry). AreOfText es) (sym c.outline-outline.ensures.value) c.requires.text
