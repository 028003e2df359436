use Rattle.std.proofs.Common.{◌∙◌, ◌+◌, drop, sym, arith}
use Rattle.org_check.proofs.UnreadLemmas.{no_look, none_here, none_left, skip_to_open}
use Rattle.org_check.proofs.unread.next_look.Goals as goal

pub loop-place-init : goal.loop-place-init
loop-place-init c = record {
  from = omega (arith, c.next_open-place.ensures.value);
  within = c.next_open-place.ensures.within;
  left = skip_to_open c.args.line.now c.args.at c.next_open-place.result c.next_open-place.ensures.value;
}

pub returns-then-looks_at : goal.returns-then-looks_at
returns-then-looks_at c = record {
  value = record {
    from = c.loop-place.invariant.from;
    within = omega arith;
    rest = c.loop-place.invariant.left;
    looks = sym c.looks_at.ensures.value ∙ c.if-looks_at.true;
  };
}

pub loop-place-preserved : goal.loop-place-preserved
loop-place-preserved c = record {
  from = omega (arith, c.next_open-place-in-loop-place.ensures.value, c.loop-place.invariant.from);
  within = c.next_open-place-in-loop-place.ensures.within;
  left =
      c.loop-place.invariant.left
      ∙ none_here c.args.line.now c.loop-place.place (omega arith) (no_look (drop c.loop-place.place c.args.line.now) (sym c.looks_at.ensures.value ∙ c.if-looks_at.false))
      ∙ skip_to_open c.args.line.now (c.loop-place.place + 1) c.next_open-place-in-loop-place.result c.next_open-place-in-loop-place.ensures.value;
}

pub returns : goal.returns
returns c = record { value = c.loop-place.invariant.left ∙ none_left c.args.line.now c.loop-place.place (omega arith) }
