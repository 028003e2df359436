use Rattle.std.proofs.Common.{◌≡◌, ◌∙◌, ◌+◌, ◌++◌, ◌∷◌, [], get_or, sym, ap, subst, arith, drop}
use Rattle.std.proofs.lemmas.List.{at_drop_more, get_or-map}
use Rattle.org_look.specs.FreeLanes.{lanes_from, lanes_of}
use Rattle.org_look.specs.Lanes.{firsts, lasts}
use Rattle.org_look.specs.declared.span.Span.{Span}
use Rattle.org_look.proofs.LaneLemmas.{Apart, Held, lanes_step, placed_more}
use Rattle.org_look.proofs.lanes.lanes_of.Goals as goal

pub loop-span-preserved : goal.loop-span-preserved
loop-span-preserved c =
    let inv = c.loop-span.invariant in
    let spans = c.args.spans.now in
    let n = c.loop-span.span-index in
    let span = c.span-item.result in
    let first : get_or (firsts spans) n 0 ≡ span.first = get_or-map (λ (s : Span). s.first) spans n span 0 c.loop-span-test.true ∙ ap (λ (s : Span). s.first) (sym c.span-item.is) in
    let last : get_or (lasts spans) n 0 ≡ span.last = get_or-map (λ (s : Span). s.last) spans n span 0 c.loop-span-test.true ∙ ap (λ (s : Span). s.last) (sym c.span-item.is) in
    let more = placed_more n c.in_ok-lane.lane c.args.most span.first span.last c.loop-span.lanes.items (firsts spans) (lasts spans) c.loop-span.free.items c.take_lane.new.free.items (omega (arith, inv.count)) first last c.in_ok-lane.ensures.free c.in_ok-lane.ensures.after c.in_ok-lane.ensures.grows inv.apart inv.held in
    let pushed : c.push.new.self.items ≡ c.loop-span.lanes.items ++ c.in_ok-lane.lane ∷ [] = c.in_ok-push.ensures.items in
    let free = c.loop-span.free.items in
    let left : lanes_from c.args.most free (drop n spans) ≡ lanes_from c.args.most free (span ∷ drop (n + 1) spans) =
    at_drop_more (λ xs. lanes_from c.args.most free xs) spans n span c.loop-span-test.true ∙ ap (λ (s : Span). lanes_from c.args.most free (s ∷ drop (n + 1) spans)) (sym c.span-item.is) in
    record {
      count = omega (arith, inv.count, c.in_ok-push.ensures.len);
      first = lanes_step c.args.most c.in_ok-lane.lane c.loop-span.lanes.items c.push.new.self.items free c.take_lane.new.free.items (lanes_of c.args.most spans) span (drop n spans) (drop (n + 1) spans)
          pushed c.in_ok-lane.ensures.first c.in_ok-lane.ensures.next left inv.first;
      apart = subst (λ xs. Apart (n + 1) xs (firsts spans) (lasts spans) c.args.most) (sym pushed) more.0;
      held = subst (λ xs. Held (n + 1) xs (lasts spans) c.take_lane.new.free.items c.args.most) (sym pushed) more.1;
    }
