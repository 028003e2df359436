-- Elements that pass a test.
use Rattle.std.proofs.Common.{◌≡◌, ◌⊎◌, ℕ, zero, suc, ◌+◌, ◌<◌, Bool, true, cond, List, [], ◌∷◌, ◌++◌, length, get_or, inl, inr, sym, ap, ◌∙◌, subst, arith}
use Rattle.std.specs.Prelude.{Contains}
use Rattle.std.specs.List.{filter}
use Rattle.std.proofs.lemmas.Bool.{cases_Bool}
use Rattle.std.proofs.lemmas.List.{append_assoc, length-append}
use Rattle.org_base.specs.Counts.{Counts, ticked}
use Rattle.org_base.specs.declared.meter.Tick.TheVariants.{Examine}
use Rattle.org_index.specs.Ticks.{examined}

pub contains_cases : (x z : ℕ) (xs : List ℕ) (k : ℕ) → k < length (x ∷ xs) → get_or (x ∷ xs) k z ≡ z → (x ≡ z) ⊎ Contains xs z
contains_cases x z xs zero l e = inl e
contains_cases x z xs (suc k) l e = inr (k, omega arith, e)

pub contains_there : (x z : ℕ) (xs : List ℕ) → Contains xs z → Contains (x ∷ xs) z
contains_there x z xs h = (suc h.0, omega (arith, h.1), h.2)

pub filter_in : (p : ℕ → Bool) (xs : List ℕ) (z : ℕ) → Contains (filter p xs) z → Contains xs z × (p z ≡ true)
filter_in p [] z h = absurd (omega (arith, h.1))
filter_in p (x ∷ xs) z h =
    elim (cases_Bool (p x)) [
      | inl passes ↦ (let g : Contains (x ∷ filter p xs) z = subst (λ b. Contains (cond b (x ∷ filter p xs) (filter p xs)) z) passes h in
          elim (contains_cases x z (filter p xs) g.0 g.1 g.2) [
            | inl same ↦ ((0, omega arith, same), ap p (sym same) ∙ passes)
            | inr more ↦ (let r = filter_in p xs z more in (contains_there x z xs r.0, r.1))
          ])
      | inr not_x ↦ (let g : Contains (filter p xs) z = subst (λ b. Contains (cond b (x ∷ filter p xs) (filter p xs)) z) not_x h in
          let r = filter_in p xs z g in (contains_there x z xs r.0, r.1))
    ]

pub in_filter : (p : ℕ → Bool) (xs : List ℕ) (z : ℕ) → Contains xs z → p z ≡ true → Contains (filter p xs) z
in_filter p [] z h k = absurd (omega (arith, h.1))
in_filter p (x ∷ xs) z h k =
    elim (contains_cases x z xs h.0 h.1 h.2) [
      | inl same ↦ subst (λ b. Contains (cond b (x ∷ filter p xs) (filter p xs)) z) (sym (ap p same ∙ k)) (0, omega arith, same)
      | inr more ↦ elim (cases_Bool (p x)) [
        | inl passes ↦ subst (λ b. Contains (cond b (x ∷ filter p xs) (filter p xs)) z) (sym passes) (contains_there x z (filter p xs) (in_filter p xs z more k))
        | inr not_x ↦ subst (λ b. Contains (cond b (x ∷ filter p xs) (filter p xs)) z) (sym not_x) (in_filter p xs z more k)
      ]
    ]

-- one more that passes
pub kept_more : (p : ℕ → Bool) (done new all rest xs : List ℕ) (x : ℕ) → p x ≡ true → new ≡ done ++ x ∷ [] → rest ≡ x ∷ xs → done ++ filter p rest ≡ all → new ++ filter p xs ≡ all
kept_more p done new all rest xs x passes new_is rest_is h =
    let step : filter p (x ∷ xs) ≡ x ∷ filter p xs = ap (λ b. cond b (x ∷ filter p xs) (filter p xs)) passes in
    ap (λ ys. ys ++ filter p xs) new_is ∙ (append_assoc done (x ∷ []) (filter p xs) ∙ (ap (λ ys. done ++ ys) (sym step ∙ ap (filter p) (sym rest_is)) ∙ h))

pub examined_more : (done new : List ℕ) (x : ℕ) (old now next : Counts) → new ≡ done ++ x ∷ [] → now ≡ examined (length done) old → next ≡ ticked Examine now → next ≡ examined (length new) old
examined_more done new x old now next new_is now_is next_is =
    let n : length new ≡ suc (length done) = ap length new_is ∙ (length-append done (x ∷ []) ∙ (let e : length done + 1 ≡ suc (length done) = omega arith in e)) in
    next_is ∙ (ap (ticked Examine) now_is ∙ sym (ap (λ k. examined k old) n))
