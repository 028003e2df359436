use Rattle.org_sum.proofs.PieceLemmas as lemmas
use Rattle.org_sum.proofs.laws.pieces_make_the_whole.Goals as goal

pub returns : goal.returns
returns c = lemmas.pieces_make_the_whole
