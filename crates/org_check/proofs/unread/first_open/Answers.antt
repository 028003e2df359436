-- What the search finds is the first place.
use Rattle.org_check.proofs.UnreadLemmas.{first_is, none_is}
use Rattle.org_check.proofs.unread.first_open.Goals as goal

pub returns-in-Some-clause-value : goal.returns-in-Some-clause-value
returns-in-Some-clause-value c = first_is c.args.bytes.now c.in-Some.place c.in-Some.ensures

pub returns-in-None-clause-value : goal.returns-in-None-clause-value
returns-in-None-clause-value c = none_is c.args.bytes.now c.in-None.ensures
