use Rattle.org_search.proofs.TypedLemmas.{wanted_as_typed}
use Rattle.org_search.proofs.search.term_of.Goals as goal

pub returns-in_ok-sought_of-in-None-clause-value : goal.returns-in_ok-sought_of-in-None-clause-value
returns-in_ok-sought_of-in-None-clause-value c =
    wanted_as_typed _ c.args.word.now c.in_ok-sought_of-in-None.ensures.value c.in-None.ensures.cases
