use Rattle.org_entry.proofs.RiseLemmas.{stamps_rise}
use Rattle.org_entry.proofs.laws.stamps_rise.Goals as goal

pub returns : goal.returns
returns c = stamps_rise
