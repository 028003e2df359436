use Rattle.org_client.proofs.ClockLemmas as lemmas
use Rattle.org_client.proofs.laws.clocks_make_the_total.Goals as goal

pub returns : goal.returns
returns c = lemmas.clocks_make_the_total
