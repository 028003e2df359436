use Rattle.std.proofs.Common.{Bool, true, false, cond, ◌≡◌, ℕ, List, [], ◌∷◌, ◌++◌, ◌∙◌, get_or, take, sym, ap, append-nil, subst}
use Rattle.std.specs.Prelude.{Contains}
use Rattle.std.specs.List.{filter}
use Rattle.std.specs.List.Sorted.{IsStrictlySortedBy}
use Rattle.std.specs.Ordering.{nat_cmp}
use Rattle.std.proofs.lemmas.List.{take_all}
use Rattle.std.proofs.lemmas.List.Kept.{IsStrictlySortedBy-filter}
use Rattle.std.proofs.lemmas.List.Elements.{filter_more}
use Rattle.org_index.specs.Near.{is_candidate}
use Rattle.org_index.proofs.FilterLemmas.{filter_in, in_filter}
use Rattle.org_index.proofs.index.DayIndex.near_ids.Goals as goal
use Rattle.org_index.proofs.index.DayIndex.near_ids.Goals.{then-is_candidate+in_ok-push, else-is_candidate}

pub returns-clause-exact : goal.returns-clause-exact
returns-clause-exact c = λ id.
    let p : ℕ → Bool = is_candidate c.args.self.now c.args.from c.args.to c.args.today in
    let found = c.in_ok-found.found.items in
    let kept : c.loop-id.ids.items ≡ filter p found = c.loop-id.invariant ∙ ap (filter p) (take_all c.loop-id.id-index c.as_slice-id-items.result.now c.loop-id-test.false ∙ c.as_slice-id-items.ensures.value) in (
      λ h. (filter_in p found id (subst (λ (ks : List ℕ). Contains ks id) kept h)).1,
      λ h. subst (λ (ks : List ℕ). Contains ks id) (sym kept) (in_filter p found id (c.in_ok-found.ensures.all id h) h),
    )

pub returns-clause-once : goal.returns-clause-once
returns-clause-once c =
    let p : ℕ → Bool = is_candidate c.args.self.now c.args.from c.args.to c.args.today in
    let found = c.in_ok-found.found.items in
    let kept : c.loop-id.ids.items ≡ filter p found = c.loop-id.invariant ∙ ap (filter p) (take_all c.loop-id.id-index c.as_slice-id-items.result.now c.loop-id-test.false ∙ c.as_slice-id-items.ensures.value) in
    subst (λ (ks : List ℕ). IsStrictlySortedBy nat_cmp ks) (sym kept) (IsStrictlySortedBy-filter nat_cmp p found c.in_ok-found.ensures.once)

pub loop-id-preserved : goal.loop-id-preserved
loop-id-preserved c =
    let p : ℕ → Bool = is_candidate c.args.self.now c.args.from c.args.to c.args.today in
    let xs = c.as_slice-id-items.result.now in
    let i = c.loop-id.id-index in
    let x : ℕ = get_or xs i 0 in
    let more = filter_more p xs i 0 c.loop-id-test.true in
    elim c.if-is_candidate.branch [
      | then-is_candidate+in_ok-push w ↦
          let passes : p x ≡ true = sym c.is_candidate.ensures.value ∙ w.if-is_candidate.true in
          rw w.ids-is (w.in_ok-push.ensures.items ∙ ap (λ (ys : List ℕ). ys ++ x ∷ []) c.loop-id.invariant ∙ sym (more ∙ ap (λ b. filter p (take i xs) ++ cond b (x ∷ []) []) passes))
      | else-is_candidate w ↦
          let fails : p x ≡ false = sym c.is_candidate.ensures.value ∙ w.if-is_candidate.false in
          rw w.ids-is (c.loop-id.invariant ∙ sym (more ∙ ap (λ b. filter p (take i xs) ++ cond b (x ∷ []) []) fails ∙ append-nil (filter p (take i xs))))
    ]
