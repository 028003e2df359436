use Rattle.org_clocktable.proofs.LawLemmas as lemmas
use Rattle.org_clocktable.proofs.laws.steps_make_the_whole.Goals as goal

pub returns : goal.returns
returns c = lemmas.steps_make_the_whole
