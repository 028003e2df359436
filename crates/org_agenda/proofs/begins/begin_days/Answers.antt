-- One day more, and the last of all.
use Rattle.std.proofs.Common.{◌≡◌, ◌∙◌, ◌+◌, ◌++◌, ap, arith, refl, sym}
use Rattle.org_agenda.specs.Begins.{begin_days, begin_on}
use Rattle.org_agenda.proofs.BeginLemmas.{looked_at, looked_at_all}
use Rattle.org_agenda.proofs.begins.begin_days.Goals as goal

pub returns-in_default : goal.returns-in_default
returns-in_default c =
    let p = c.args.profile in
    let s = c.args.source.now in
    let inv = c.loop-turn.invariant in
    record {
      value = looked_at_all p s c.loop-turn.days.items (begin_days p s c.args.first c.args.count) c.loop-turn.next c.next_begin.result (c.number.result + c.args.count)
          inv.told c.next_begin.ensures.none inv.one inv.most (c.in_default.ensures.none refl) (omega (arith, c.requires.within, c.number.ensures.value));
    }

pub loop-turn-preserved : goal.loop-turn-preserved
loop-turn-preserved c =
    let p = c.args.profile in
    let s = c.args.source.now in
    let inv = c.loop-turn.invariant in
    let days = c.loop-turn.days.items in
    let day = c.number-next-in-loop-turn.result in
    let same = c.number-next-in-loop-turn.ensures.value in
    let found = c.in-Some.ensures.some in
    let ahead = c.next_begin.ensures.not_before in
    record {
      told = looked_at p s days c.push_begin.new.days.items (begin_days p s c.args.first c.args.count) c.loop-turn.next day (c.number.result + c.args.count)
          inv.told (λ e is late early. c.next_begin.ensures.none e is late (omega (arith, early, same, found.0))) inv.one (omega (arith, ahead, same, found.0))
          (omega (arith, same, found.0, found.1)) (omega (arith, c.requires.within, c.number.ensures.value))
          (c.in_ok-push_begin.ensures.value ∙ ap (λ t. days ++ begin_on p s t) (sym same));
      late = omega (arith, inv.late, ahead, same, found.0);
      one = omega arith;
      most = omega (arith, same, found.0, found.1);
    }
