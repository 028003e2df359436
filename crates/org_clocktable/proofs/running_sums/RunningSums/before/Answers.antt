use Rattle.std.proofs.Common.{◌∙◌, List, ap, arith, subst, sym}
use Rattle.org_clocktable.specs.RunningSums.{AreBefore, before}
use Rattle.org_clocktable.specs.declared.running_sums.RunningSum.{RunningSum}
use Rattle.org_clocktable.proofs.RunningSumLemmas.{at_count, at_end}
use Rattle.org_clocktable.proofs.running_sums.RunningSums.before.Goals as goal

pub returns-then-count-len : goal.returns-then-count-len
returns-then-count-len c =
    let ms = c.self.inside.running.items in
    let place = c.args.place in
    let count = c.count_before-count.result in
    let are = subst (λ (ns : List RunningSum). AreBefore ns place count) c.as_slice.ensures.value c.count_before-count.ensures in
    ap (λ (m : RunningSum). m.before) c.index.ensures ∙ sym (at_count ms c.self.inside.total place count c.index.result.now are (omega arith)) ∙ (λ k. before (c.self.view_is k) place)

pub returns-else-count-len : goal.returns-else-count-len
returns-else-count-len c =
    let ms = c.self.inside.running.items in
    let place = c.args.place in
    let count = c.count_before-count.result in
    let are = subst (λ (ns : List RunningSum). AreBefore ns place count) c.as_slice.ensures.value c.count_before-count.ensures in
    sym (at_end ms c.self.inside.total place count (record { place = 0; before = 0 }) are (omega arith)) ∙ (λ k. before (c.self.view_is k) place)
