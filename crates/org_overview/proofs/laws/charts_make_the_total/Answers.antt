use Rattle.org_overview.proofs.SumLemmas as lemmas
use Rattle.org_overview.proofs.laws.charts_make_the_total.Goals as goal

pub returns : goal.returns
returns c = lemmas.charts_make_the_total
