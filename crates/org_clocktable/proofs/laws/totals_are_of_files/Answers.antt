use Rattle.org_clocktable.proofs.LawLemmas as lemmas
use Rattle.org_clocktable.proofs.laws.totals_are_of_files.Goals as goal

pub returns : goal.returns
returns c = lemmas.totals_are_of_files
