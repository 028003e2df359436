-- One place more, and the next closing bracket from after it on.
use Rattle.std.proofs.Common.{arith}
use Rattle.org_stamp.proofs.LineLemmas.{close_later}
use Rattle.org_check.specs.Said.{said}
use Rattle.org_check.proofs.SaidLemmas.{close_from, stamp_step, stamps_end, stamps_past}
use Rattle.org_check.proofs.stamps.push_looks.Goals as goal

pub next_close-close-requires-clause-known : goal.next_close-close-requires-clause-known
next_close-close-requires-clause-known c =
    λ le. close_from c.args.line.now c.loop-from.from c.in-Some.place c.loop-from.close c.in-Some.ensures.value.from c.loop-from.invariant.close_is le

pub loop-from-preserved : goal.loop-from-preserved
loop-from-preserved c = record {
  within = omega (arith, c.in-Some.ensures.value.within);
  close_is = λ le. close_later c.args.line.now c.in-Some.place 1 c.next_close-close.result c.next_close-close.ensures.value le;
  all = stamp_step (said c.loop-from.found) _ _ c.args.here.at c.loop-from.from c.in-Some.place c.args.line.now c.in-Some.ensures.value.within c.in_ok-push_if_none.ensures.said c.in-Some.ensures.value.rest c.loop-from.invariant.all;
}

pub returns : goal.returns
returns c = record { said = stamps_past (said c.loop-from.found) _ c.args.here.at c.loop-from.from c.args.line.now (omega arith) c.loop-from.invariant.all }

pub returns-in_default : goal.returns-in_default
returns-in_default c = record { said = stamps_end (said c.loop-from.found) _ c.args.here.at c.loop-from.from c.args.line.now c.in_default.ensures.value c.loop-from.invariant.all }
