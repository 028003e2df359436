use Rattle.std.proofs.Common.{arith}
use Rattle.std.proofs.lemmas.Bool.Decides.{nat_tests}
use Rattle.org_stamp.proofs.SeenLemmas.{nothing_follows, time_follows}
use Rattle.org_stamp.proofs.inner.is_time_or_none.Goals as goal

pub returns-then-is_empty-clause-follows : goal.returns-then-is_empty-clause-follows
returns-then-is_empty-clause-follows c = λ _. (nothing_follows c.args.bytes.now (grind (arith, nat_tests, c.is_empty.ensures, c.if-is_empty.true))).1

pub returns-in-Some-clause-follows : goal.returns-in-Some-clause-follows
returns-in-Some-clause-follows c = λ is. time_follows c.args.bytes.now c.in-Some.field-0-0 c.in-Some.rest.now c.in-Some.ensures.first (grind (arith, nat_tests, c.is_empty-in-Some.ensures, is))
