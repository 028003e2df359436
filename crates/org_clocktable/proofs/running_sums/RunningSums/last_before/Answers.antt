use Rattle.std.proofs.Common.{◌≡◌, ◌∙◌, ◌<◌, ◌+◌, ◌-◌, ℕ, List, ap, arith, get_or, length, subst, suc, sym}
use Rattle.org_clocktable.specs.RunningSums.{AreBefore, before, sum_at}
use Rattle.org_clocktable.specs.declared.running_sums.RunningSum.{RunningSum}
use Rattle.org_clocktable.proofs.RunningSumLemmas.{last_before, none_before, same_count}
use Rattle.org_clocktable.proofs.running_sums.RunningSums.last_before.Goals as goal

pub returns-then-count-eq0 : goal.returns-then-count-eq0
returns-then-count-eq0 c =
    let ms = c.self.inside.running.items in
    let place = c.args.place in
    let count = c.count_before-count.result in
    let none : count ≡ 0 = omega arith in
    let are = subst (λ (ns : List RunningSum). AreBefore ns place count) c.as_slice.ensures.value c.count_before-count.ensures in
    let first = subst (λ (n : ℕ). AreBefore ms place n) none are in
    sym (λ k. before (c.self.view_is k) place)
    ∙ same_count ms c.self.inside.total place 0 0 (record { place = 0; before = 0 }) first (none_before ms place first)
    ∙ (λ k. before (c.self.view_is k) 0)

pub returns : goal.returns
returns c =
    let ms = c.self.inside.running.items in
    let total = c.self.inside.total in
    let place = c.args.place in
    let count = c.count_before-count.result in
    let k = count - 1 in
    let one : count ≡ suc k = omega arith in
    let are = subst (λ (n : ℕ). AreBefore ms place n) one (subst (λ (ns : List RunningSum). AreBefore ns place count) c.as_slice.ensures.value c.count_before-count.ensures) in
    let sum_so_far = c.index.result.now in
    let here : sum_so_far ≡ get_or ms k sum_so_far = c.index.ensures in
    let at : sum_so_far.place ≡ (get_or ms k sum_so_far).place = ap (λ (m : RunningSum). m.place) here in
    let inside : k < length ms = omega (arith, are.within) in
    let view : (x : ℕ) → before c.args.self.now x ≡ sum_at ms total x = λ x. sym (λ i. before (c.self.view_is i) x) in
    let rise : sum_at ms total sum_so_far.place < sum_at ms total (sum_so_far.place + 1) =
    subst (λ (p : ℕ). sum_at ms total p < sum_at ms total (p + 1)) (sym at) (c.self.invariant.rises k sum_so_far inside) in
    let same : sum_at ms total (sum_so_far.place + 1) ≡ sum_at ms total place =
    ap (λ p. sum_at ms total (p + 1)) at ∙ same_count ms total ((get_or ms k sum_so_far).place + 1) place (suc k) sum_so_far (last_before ms place k sum_so_far c.self.invariant.order are) are in (
      omega (arith, at, are.earlier k sum_so_far (omega arith)),
      omega (arith, view sum_so_far.place, view (sum_so_far.place + 1), rise),
      view (sum_so_far.place + 1) ∙ same ∙ sym (view place),
    )
