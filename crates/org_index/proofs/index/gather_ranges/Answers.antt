use Rattle.std.proofs.Common.{arith, refl, ap, ◌∙◌, ◌-◌}
use Rattle.org_index.proofs.NearLemmas.{adds_next, keeps_more}
use Rattle.org_index.proofs.index.gather_ranges.Goals as goal

pub classes-preserved : goal.classes-preserved
classes-preserved c =
    let before = c.classes.invariant in
    let keeps = c.in_ok-gather.ensures.keeps in
    record {
      few = omega (arith, c.classes-test.true);
      keeps = keeps_more c.args.found.now.items c.classes.found.items c.gather.new.found.items before.keeps keeps;
      adds = adds_next c.args.ranges.now c.args.from c.classes.class _ c.saturating_sub-low.result c.classes.found.items c.gather.new.found.items refl (c.saturating_sub-low.ensures ∙ ap (λ n. c.args.from - n) c.bound_of.ensures.value) before.adds keeps c.in_ok-gather.ensures.adds;
    }
