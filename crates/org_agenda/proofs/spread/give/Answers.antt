use Rattle.std.proofs.Common.{arith}
use Rattle.org_agenda.proofs.SpreadLemmas.{given_all, given_more}
use Rattle.org_agenda.proofs.spread.give.Goals as goal

pub returns-then-ahead-count-clause-ok : goal.returns-then-ahead-count-clause-ok
returns-then-ahead-count-clause-ok c =
    let inv = c.loop-turn.invariant in
    given_all c.args.as_of.now c.args.sources.now c.args.first c.args.place c.args.places.now c.loop-turn.places c.loop-turn.next c.next_shown-day.result inv.given
    (omega (arith, c.number-next.ensures.value, c.number-next.ensures.first)) c.requires.days c.requires.place c.index-sources-place.result c.index-sources-place.is c.next_shown-day.ensures.none
    (omega (arith, c.if-ahead-count.true, c.count.ensures, c.number.ensures.value, inv.given.count))

pub loop-turn-preserved : goal.loop-turn-preserved
loop-turn-preserved c =
    let inv = c.loop-turn.invariant in
    let day = c.next_shown-day.ensures in
    record {
      given = given_more c.args.as_of.now c.args.sources.now c.args.first c.args.place c.args.places.now c.loop-turn.places c.loop-turn.next c.next_shown-day.result inv.given
          (omega (arith, c.number-next.ensures.value, c.number-next.ensures.first)) c.requires.days c.requires.place c.index-sources-place.result c.index-sources-place.is day.none
          c.add.new.self _ (omega (arith, c.number.ensures.value, day.not_before, inv.late)) day.not_before (omega (arith, c.if-ahead-count.false, c.count.ensures)) c.in_ok-add.ensures;
      late = omega (arith, day.not_before, inv.late);
      most = omega (arith, c.if-ahead-count.false, c.count.ensures, c.number.ensures.value, inv.given.count, c.requires.days);
    }
