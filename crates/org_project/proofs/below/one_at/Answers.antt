use Rattle.std.proofs.Common.{◌∙◌}
use Rattle.org_sum.proofs.Ranges.{own_is}
use Rattle.org_project.specs.Below.{one}
use Rattle.org_project.proofs.below.one_at.Goals as goal

pub returns : goal.returns
returns c = record { value = c.one_of.ensures.value ∙ (rw c.entry.ensures.value (own_is one c.args.outline.now c.args.counted.now c.args.place c.entry.result.now c.requires.within c.requires.count)) }
