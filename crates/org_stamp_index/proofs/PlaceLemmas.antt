-- The places of ids in a set.
use Rattle.std.proofs.Common.{◌≡◌, ◌∙◌, ℕ, zero, suc, ◌+◌, ◌<◌, ◌≤◌, List, [], ◌∷◌, ◌++◌, inl, inr, length, take, get_or, sym, ap, refl, subst, arith}
use Rattle.std.specs.Prelude.{None, Some, Contains, Result, Ok, Err, OnErr, slice_get}
use Rattle.std.proofs.lemmas.List.{take_all, take_more}
use Rattle.std.proofs.lemmas.List.Elements.{Contains-append_left, Contains-push, Contains-push_cases}
use Rattle.org_base.specs.Counts.{Counts, ticked}
use Rattle.org_base.specs.declared.meter.Tick.TheVariants.{Examine}
use Rattle.org_index.specs.Ticks.{Examines, examined}
use Rattle.org_stamp_index.specs.Near.{AddHeadings, AddsHeading, KeepPlaces}

-- one place is put in
pub put_keeps : (k : ℕ) (old new : List ℕ) → new ≡ old ++ k ∷ [] → KeepPlaces old new
put_keeps k old new is i was = subst (λ (ys : List ℕ). Contains ys i) (sym is) (Contains-append_left old (k ∷ []) i was)

pub put_adds : (heading_of : List ℕ) (id k : ℕ) (old new : List ℕ) → slice_get heading_of id ≡ Some k → new ≡ old ++ k ∷ [] → AddsHeading heading_of id new
put_adds heading_of id k old new is more i at =
    let same : k ≡ i = cc in
    subst (λ (n : ℕ). Contains new n) same (subst (λ (ys : List ℕ). Contains ys k) (sym more) (Contains-push old k))

pub none_adds : (heading_of : List ℕ) (id : ℕ) (new : List ℕ) → slice_get heading_of id ≡ None → AddsHeading heading_of id new
none_adds heading_of id new is i at = absurd (cc)

-- the places of one id more
pub adds_more : (heading_of ids : List ℕ) (n id : ℕ) (old new : List ℕ) → n < length ids → id ≡ get_or ids n 0 → AddHeadings heading_of (take n ids) old → KeepPlaces old new → AddsHeading heading_of id new → AddHeadings heading_of (take (n + 1) ids) new
adds_more heading_of ids n id old new lt is had keeps one x i at there =
    let more : take (n + 1) ids ≡ take n ids ++ id ∷ [] = take_more ids n 0 lt ∙ ap (λ y. take n ids ++ y ∷ []) (sym is) in
    elim (Contains-push_cases (take n ids) id x (subst (λ (ys : List ℕ). Contains ys x) more at)) [
      | inl before ↦ keeps i (had x i before there)
      | inr now' ↦ one i (ap (slice_get heading_of) now' ∙ there)
    ]

pub adds_whole : (heading_of ids : List ℕ) (n : ℕ) (new : List ℕ) → length ids ≤ n → AddHeadings heading_of (take n ids) new → AddHeadings heading_of ids new
adds_whole heading_of ids n new le adds = subst (λ (ys : List ℕ). AddHeadings heading_of ys new) (take_all n ids le) adds

pub adds_none : (heading_of ids : List ℕ) (new : List ℕ) → AddHeadings heading_of (take 0 ids) new
adds_none heading_of ids new id i at there = absurd (let none : take 0 ids ≡ [] = refl in omega (arith, at.1))

pub examined_sum : (a b : ℕ) (counts : Counts) → examined b (examined a counts) ≡ examined (a + b) counts
examined_sum a zero counts = ap (λ n. examined n counts) (let e : a ≡ a + 0 = omega arith in e)
examined_sum a (suc b) counts = ap (ticked Examine) (examined_sum a b counts) ∙ ap (λ n. examined n counts) (let e : suc (a + b) ≡ a + suc b = omega arith in e)

pub examines_more : (a : ℕ) (old mid new : Counts) → mid ≡ examined a old → Examines mid new → Examines old new
examines_more a old mid new is more = (a + more.0, more.1 ∙ (ap (examined more.0) is ∙ examined_sum a more.0 old))

pub on_err : {T E : Type 0} (r : Result T E) (P : Type 0) → P → OnErr r P
on_err (Ok v) P p = tt
on_err (Err e) P p = p

pub both_counted : (a b : ℕ) (old mid new : Counts) → mid ≡ examined a old → new ≡ examined b mid → new ≡ examined (a + b) old
both_counted a b old mid new one two = two ∙ ap (examined b) one ∙ examined_sum a b old
