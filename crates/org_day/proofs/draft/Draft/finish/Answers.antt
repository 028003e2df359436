use Rattle.org_day.proofs.LineLemmas.{empty_line}
use Rattle.org_day.proofs.draft.Draft.finish.Goals as goal

pub returns : goal.returns
returns c = record { line = empty_line c.args.columns _ c.new.ensures.items }
