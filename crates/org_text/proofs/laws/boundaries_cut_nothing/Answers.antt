use Rattle.org_text.proofs.ReplaceLemmas.{boundaries_cut_nothing}
use Rattle.org_text.proofs.laws.boundaries_cut_nothing.Goals as goal

pub returns : goal.returns
returns c = boundaries_cut_nothing
