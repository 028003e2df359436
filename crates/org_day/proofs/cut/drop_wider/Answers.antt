use Rattle.org_day.proofs.WidthLemmas.{nothing_within}
use Rattle.org_day.proofs.cut.drop_wider.Goals as goal

pub returns-then-width-columns : goal.returns-then-width-columns
returns-then-width-columns c = record { within = nothing_within c.args.columns _ c.clear.ensures.bytes }
