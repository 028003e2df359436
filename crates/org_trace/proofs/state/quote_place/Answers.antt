use Rattle.org_trace.proofs.StateLemmas.{quote_is}
use Rattle.org_trace.proofs.state.quote_place.Goals as goal

pub returns-clause-value : goal.returns-clause-value
returns-clause-value c = quote_is c.args.text.now c.memchr.result c.memchr.ensures
