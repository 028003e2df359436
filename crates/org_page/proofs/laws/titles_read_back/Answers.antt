use Rattle.org_page.proofs.ReaderLemmas.{titles_read_back}
use Rattle.org_page.proofs.laws.titles_read_back.Goals as goal

pub returns : goal.returns
returns c = titles_read_back
