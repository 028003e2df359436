use Rattle.orgls_text.proofs.LawLemmas.{beyond_a_line_is_its_end}
use Rattle.orgls_text.proofs.laws.beyond_a_line_is_its_end.Goals as goal

pub returns : goal.returns
returns c = beyond_a_line_is_its_end
