use Rattle.std.proofs.Common.{true}
use Rattle.std.specs.BTreeSet.{contains}
use Rattle.org_index.specs.DaySet.{key_cmp}
use Rattle.org_index.proofs.KeyLemmas.{set_is}
use Rattle.org_index.proofs.day_set.put_id.Goals as goal

pub returns-in_ok-insert-clause-ok : goal.returns-in_ok-insert-clause-ok
returns-in_ok-insert-clause-ok c = λ d i. set_is c.args.day c.in-Some.day c.args.id d i true (contains key_cmp c.args.day_set.now (d, i)) (contains key_cmp c.insert.new.self (d, i)) c.in-Some.is (c.in_ok-insert.ensures.updates.0 (d, i))
