use Rattle.std.proofs.Common.{◌≡◌, ◌∙◌, ℕ, Bool, List, ap, arith, length, subst, sym}
use Rattle.std.proofs.lemmas.Result.{IfOk-weaker}
use Rattle.org_clocktable.proofs.ClockedLemmas.{before_from, clocks_in_order, small_of}
use Rattle.org_clocktable.specs.Counted.{clocks_before, clocks_from}
use Rattle.org_clocktable.specs.RunningSums.{AreInOrder, minutes_before, minutes_of}
use Rattle.org_clocktable.specs.declared.running_sums.PlacedClock.{PlacedClock}
use Rattle.org_sum.proofs.Ranges.{own_total}
use Rattle.org_sum.proofs.TextLemmas.{text_small}
use Rattle.org_sum.specs.Measures.{clock_minutes}
use Rattle.org_sum.specs.declared.measure.Measure.TheVariants.{Clocks}
use Rattle.org_clocktable.proofs.counted.CountedFile.running_sums.Goals as goal

pub of-requires-clause-order : goal.of-requires-clause-order
of-requires-clause-order c =
    let es = c.self.inside.outline.now in
    let cs : List Bool = c.self.inside.counted.items in
    subst (λ (clocks : List PlacedClock). AreInOrder 0 clocks) (sym (c.as_slice.ensures.value ∙ c.self.invariant.clocks)) (clocks_in_order 0 es cs)

pub of-requires-clause-fits : goal.of-requires-clause-fits
of-requires-clause-fits c =
    let es = c.self.inside.outline.now in
    let cs : List Bool = c.self.inside.counted.items in
    let days : ℕ × ℕ = (c.args.period.now.first, c.args.period.now.last) in
    let text = c.self.invariant.is.text in
    let small = text_small (Clocks c.args.period.now) es (omega (arith, c.number-last.ensures.value, c.number-last.ensures.last)) text in
    omega (arith, ap (minutes_of days) (c.as_slice.ensures.value ∙ c.self.invariant.clocks), small_of c.args.period.now.first c.args.period.now.last es cs text small)

pub returns-clause-sums : goal.returns-clause-sums
returns-clause-sums c =
    let es = c.self.inside.outline.now in
    let cs : List Bool = c.self.inside.counted.items in
    let days : ℕ × ℕ = (c.args.period.now.first, c.args.period.now.last) in
    let asked : c.as_slice.result.now ≡ clocks_from 0 es cs = c.as_slice.ensures.value ∙ c.self.invariant.clocks in
    IfOk-weaker c.of.result _ _
    (λ running are place.
    are.1 place ∙ (λ k. minutes_before days (asked k) place) ∙ before_from days 0 es cs place place (omega arith) ∙ (λ k. clocks_before (sym are.0 k) (c.self.view_is k) place))
    c.of.ensures

pub returns-clause-below : goal.returns-clause-below
returns-clause-below c =
    let es = c.self.inside.outline.now in
    let cs : List Bool = c.self.inside.counted.items in
    let days : ℕ × ℕ = (c.args.period.now.first, c.args.period.now.last) in
    let n = length c.args.self.now.entries in
    let asked : c.as_slice.result.now ≡ clocks_from 0 es cs = c.as_slice.ensures.value ∙ c.self.invariant.clocks in
    let small = text_small (Clocks c.args.period.now) es (omega (arith, c.number-last.ensures.value, c.number-last.ensures.last)) c.self.invariant.is.text in
    IfOk-weaker c.of.result _ _
    (λ running are.
    omega (arith, are.1 n ∙ (λ k. minutes_before days (asked k) n) ∙ before_from days 0 es cs n n (omega arith), own_total (clock_minutes days) es cs n, small))
    c.of.ensures
