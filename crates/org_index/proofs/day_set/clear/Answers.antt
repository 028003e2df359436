use Rattle.std.proofs.Common.{false}
use Rattle.std.specs.BTreeSet.{contains}
use Rattle.org_index.specs.DaySet.{key_cmp}
use Rattle.org_index.proofs.KeyLemmas.{set_is}
use Rattle.org_index.proofs.day_set.clear.Goals as goal

pub returns-in-Some : goal.returns-in-Some
returns-in-Some c = λ d i. set_is c.args.day c.in-Some.day c.args.id d i false (contains key_cmp c.args.day_set.now (d, i)) (contains key_cmp c.remove.new.self (d, i)) c.in-Some.is (c.remove.ensures.updates.0 (d, i))
