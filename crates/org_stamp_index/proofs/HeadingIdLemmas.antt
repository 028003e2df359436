-- The ids of entries, and their places.
use Rattle.std.proofs.Common.{◌≡◌, ◌∙◌, ℕ, zero, suc, ◌+◌, ◌<◌, ◌≤◌, Bool, List, [], ◌∷◌, ◌++◌, length, get_or, inl, inr, ap, refl, subst, arith}
use Rattle.std.specs.Prelude.{Some, replicate, slice_get, slice_set}
use Rattle.std.specs.List.{sum_by}
use Rattle.std.proofs.lemmas.Bool.{cases_Bool}
use Rattle.std.proofs.lemmas.List.{length-append}
use Rattle.std.proofs.lemmas.List.Sums.{sum_by-append}
use Rattle.org_base.specs.declared.profile.Profile.{Profile}
use Rattle.org_entry.specs.declared.entry.Entry.{Entry}
use Rattle.org_index.specs.declared.reach.Reach.{Reach}
use Rattle.org_settings.specs.Settings.{FileSettings}
use Rattle.org_entry.specs.Active.{active_stamps}
use Rattle.org_entry.specs.declared.active.EntryStamp.{EntryStamp}
use Rattle.org_stamp_index.specs.Index.{AreBelow, AreHeadingsOf, AreHoused, all_ids, ids_of}
use Rattle.org_stamp_index.proofs.SumLemmas.{below_append}

-- what stands in a list stands in a longer one
pub get_append : (xs ys : List ℕ) (n v : ℕ) → slice_get xs n ≡ Some v → slice_get (xs ++ ys) n ≡ Some v
get_append [] ys n v there = absurd (cc)
get_append (x ∷ xs) ys zero v there = there
get_append (x ∷ xs) ys (suc n) v there = get_append xs ys n v there

get_behind : (xs ys : List ℕ) (j : ℕ) → slice_get (xs ++ ys) (length xs + j) ≡ slice_get ys j
get_behind [] ys j = ap (λ n. slice_get ys n) (let e : 0 + j ≡ j = omega arith in e)
get_behind (x ∷ xs) ys j = ap (λ n. slice_get (x ∷ (xs ++ ys)) n) (let e : suc (length xs) + j ≡ suc (length xs + j) = omega arith in e) ∙ get_behind xs ys j

get_replicate : (n v j : ℕ) → j < n → slice_get (replicate n v) j ≡ Some v
get_replicate zero v j lt = absurd (omega (arith, lt))
get_replicate (suc n) v zero lt = refl
get_replicate (suc n) v (suc j) lt = get_replicate n v j (omega (arith, lt))

length_replicate : (n v : ℕ) → length (replicate n v) ≡ n
length_replicate zero v = refl
length_replicate (suc n) v = let more = length_replicate n v in omega (arith, more)

headings_more : (heading_of more : List ℕ) (first count place : ℕ) → AreHeadingsOf heading_of first count place → AreHeadingsOf (heading_of ++ more) first count place
headings_more heading_of more first count place h = (let l = length-append heading_of more in omega (arith, l, h.0), λ j lt. get_append heading_of more (first + j) place (h.1 j lt))

-- the next ids are a place's
pub headings_new : (heading_of : List ℕ) (count place : ℕ) → AreHeadingsOf (heading_of ++ replicate count place) (length heading_of) count place
headings_new heading_of count place =
    (let l = length-append heading_of (replicate count place) in omega (arith, l, length_replicate count place), λ j lt. get_behind heading_of (replicate count place) j ∙ get_replicate count place j lt)

module _ (settings : FileSettings) where
  pub housed_more : (heading_of more : List ℕ) (i : ℕ) (fs : List ℕ) (es : List Entry) → AreHoused settings heading_of i fs es → AreHoused settings (heading_of ++ more) i fs es
  housed_more heading_of more i [] [] h = tt
  housed_more heading_of more i [] (e ∷ es) h = absurd h
  housed_more heading_of more i (f ∷ fs) [] h = absurd h
  housed_more heading_of more i (f ∷ fs) (e ∷ es) h = (headings_more heading_of more f (length (active_stamps settings e)) i h.0, housed_more heading_of more (i + 1) fs es h.1)

  pub housed_long : (heading_of : List ℕ) (i : ℕ) (fs : List ℕ) (es : List Entry) → AreHoused settings heading_of i fs es → length fs ≡ length es
  housed_long heading_of i [] [] h = refl
  housed_long heading_of i [] (e ∷ es) h = absurd h
  housed_long heading_of i (f ∷ fs) [] h = absurd h
  housed_long heading_of i (f ∷ fs) (e ∷ es) h = let more = housed_long heading_of (i + 1) fs es h.1 in omega (arith, more)

  -- one entry more at the end
  pub housed_push : (heading_of : List ℕ) (i : ℕ) (fs : List ℕ) (es : List Entry) (f : ℕ) (e : Entry) → AreHoused settings heading_of i fs es → AreHeadingsOf heading_of f (length (active_stamps settings e)) (i + length es) →
      AreHoused settings heading_of i (fs ++ f ∷ []) (es ++ e ∷ [])
  housed_push heading_of i [] [] f e h new = (subst (AreHeadingsOf heading_of f (length (active_stamps settings e))) (let z : i + 0 ≡ i = omega arith in z) new, tt)
  housed_push heading_of i [] (x ∷ es) f e h new = absurd h
  housed_push heading_of i (x ∷ fs) [] f e h new = absurd h
  housed_push heading_of i (x ∷ fs) (y ∷ es) f e h new =
      (h.0, housed_push heading_of (i + 1) fs es f e h.1 (subst (AreHeadingsOf heading_of f (length (active_stamps settings e))) (let z : i + suc (length es) ≡ i + 1 + length es = omega arith in z) new))

  -- another entry at a place
  pub housed_set : (heading_of : List ℕ) (i : ℕ) (fs : List ℕ) (es : List Entry) (place f : ℕ) (e : Entry) → AreHoused settings heading_of i fs es → AreHeadingsOf heading_of f (length (active_stamps settings e)) (i + place) →
      AreHoused settings heading_of i (slice_set fs place f) (slice_set es place e)
  housed_set heading_of i [] [] place f e h new = tt
  housed_set heading_of i [] (x ∷ es) place f e h new = absurd h
  housed_set heading_of i (x ∷ fs) [] place f e h new = absurd h
  housed_set heading_of i (x ∷ fs) (y ∷ es) zero f e h new = (subst (AreHeadingsOf heading_of f (length (active_stamps settings e))) (let z : i + 0 ≡ i = omega arith in z) new, h.1)
  housed_set heading_of i (x ∷ fs) (y ∷ es) (suc place) f e h new =
      (h.0, housed_set heading_of (i + 1) fs es place f e h.1 (subst (AreHeadingsOf heading_of f (length (active_stamps settings e))) (let z : i + suc place ≡ i + 1 + place = omega arith in z) new))

  -- the ids of the entry at a place
  pub housed_at : (heading_of : List ℕ) (i : ℕ) (fs : List ℕ) (es : List Entry) (place : ℕ) (e : Entry) → AreHoused settings heading_of i fs es → slice_get es place ≡ Some e → AreHeadingsOf heading_of (get_or fs place 0) (length (active_stamps settings e)) (i + place)
  housed_at heading_of i fs [] place e h there = absurd (cc)
  housed_at heading_of i [] (y ∷ es) place e h there = absurd h
  housed_at heading_of i (x ∷ fs) (y ∷ es) zero e h there =
      let same : y ≡ e = cc in
      subst (λ (z : Entry). AreHeadingsOf heading_of x (length (active_stamps settings z)) (i + 0)) same (subst (AreHeadingsOf heading_of x (length (active_stamps settings y))) (let z : i ≡ i + 0 = omega arith in z) h.0)
  housed_at heading_of i (x ∷ fs) (y ∷ es) (suc place) e h there =
      subst (AreHeadingsOf heading_of (get_or fs place 0) (length (active_stamps settings e))) (let z : i + 1 + place ≡ i + suc place = omega arith in z) (housed_at heading_of (i + 1) fs es place e h.1 there)

  module _ (q : Profile) (wanted : EntryStamp → Bool) where
    ids_below : (n id : ℕ) (ss : List EntryStamp) → id + length ss ≤ n → AreBelow n (ids_of q wanted id ss)
    ids_below n id [] le = tt
    ids_below n id (s ∷ ss) le =
        let later : AreBelow n (ids_of q wanted (id + 1) ss) = ids_below n (id + 1) ss (omega (arith, le)) in
        elim (cases_Bool (wanted s)) [
          | inl yes' ↦ rw yes' (omega (arith, le), later)
          | inr no' ↦ rw no' later
        ]

    -- all ids were given
    pub all_below : (heading_of : List ℕ) (i : ℕ) (fs : List ℕ) (es : List Entry) → AreHoused settings heading_of i fs es → AreBelow (length heading_of) (all_ids q wanted settings fs es)
    all_below heading_of i [] [] h = tt
    all_below heading_of i [] (e ∷ es) h = absurd h
    all_below heading_of i (f ∷ fs) [] h = absurd h
    all_below heading_of i (f ∷ fs) (e ∷ es) h =
        below_append (length heading_of) (ids_of q wanted f (active_stamps settings e)) (all_ids q wanted settings fs es) (ids_below (length heading_of) f (active_stamps settings e) h.0.0) (all_below heading_of (i + 1) fs es h.1)

    pub sum_push : (weight : ℕ × Reach → ℕ) (fs : List ℕ) (es : List Entry) (f : ℕ) (e : Entry) → length fs ≡ length es →
        sum_by weight (all_ids q wanted settings (fs ++ f ∷ []) (es ++ e ∷ [])) ≡ sum_by weight (all_ids q wanted settings fs es) + sum_by weight (ids_of q wanted f (active_stamps settings e))
    sum_push weight [] [] f e long = let whole = sum_by-append weight (ids_of q wanted f (active_stamps settings e)) [] in omega (arith, whole)
    sum_push weight [] (y ∷ es) f e long = absurd (omega (arith, long))
    sum_push weight (x ∷ fs) [] f e long = absurd (omega (arith, long))
    sum_push weight (x ∷ fs) (y ∷ es) f e long =
        let one = sum_by-append weight (ids_of q wanted x (active_stamps settings y)) (all_ids q wanted settings (fs ++ f ∷ []) (es ++ e ∷ [])) in
        let two = sum_by-append weight (ids_of q wanted x (active_stamps settings y)) (all_ids q wanted settings fs es) in
        omega (arith, one, two, sum_push weight fs es f e (omega (arith, long)))

    -- the ids of all entries but that at a place
    abbrev pub rest_ids : ℕ → List ℕ → List Entry → List (ℕ × Reach)
    rest_ids place [] es = []
    rest_ids place (f ∷ fs) [] = []
    rest_ids zero (f ∷ fs) (e ∷ es) = all_ids q wanted settings fs es
    rest_ids (suc place) (f ∷ fs) (e ∷ es) = ids_of q wanted f (active_stamps settings e) ++ rest_ids place fs es

    -- the ids at a place, and the others
    pub sum_at : (weight : ℕ × Reach → ℕ) (place : ℕ) (fs : List ℕ) (es : List Entry) (e : Entry) → length fs ≡ length es → slice_get es place ≡ Some e →
        sum_by weight (all_ids q wanted settings fs es) ≡ sum_by weight (ids_of q wanted (get_or fs place 0) (active_stamps settings e)) + sum_by weight (rest_ids place fs es)
    sum_at weight place fs [] e long there = absurd (cc)
    sum_at weight place [] (y ∷ es) e long there = absurd (omega (arith, long))
    sum_at weight zero (x ∷ fs) (y ∷ es) e long there =
        let same : y ≡ e = cc in
        sum_by-append weight (ids_of q wanted x (active_stamps settings y)) (all_ids q wanted settings fs es)
        ∙ ap (λ (z : Entry). sum_by weight (ids_of q wanted x (active_stamps settings z)) + sum_by weight (all_ids q wanted settings fs es)) same
    sum_at weight (suc place) (x ∷ fs) (y ∷ es) e long there =
        let one = sum_by-append weight (ids_of q wanted x (active_stamps settings y)) (all_ids q wanted settings fs es) in
        let two = sum_by-append weight (ids_of q wanted x (active_stamps settings y)) (rest_ids place fs es) in
        omega (arith, one, two, sum_at weight place fs es e (omega (arith, long)) there)

    -- the same after another entry was put there
    pub sum_set : (weight : ℕ × Reach → ℕ) (place : ℕ) (fs : List ℕ) (es : List Entry) (f : ℕ) (e : Entry) → length fs ≡ length es → place < length es →
        sum_by weight (all_ids q wanted settings (slice_set fs place f) (slice_set es place e)) ≡ sum_by weight (ids_of q wanted f (active_stamps settings e)) + sum_by weight (rest_ids place fs es)
    sum_set weight place fs [] f e long lt = absurd (omega (arith, lt))
    sum_set weight place [] (y ∷ es) f e long lt = absurd (omega (arith, long))
    sum_set weight zero (x ∷ fs) (y ∷ es) f e long lt = sum_by-append weight (ids_of q wanted f (active_stamps settings e)) (all_ids q wanted settings fs es)
    sum_set weight (suc place) (x ∷ fs) (y ∷ es) f e long lt =
        let one = sum_by-append weight (ids_of q wanted x (active_stamps settings y)) (all_ids q wanted settings (slice_set fs place f) (slice_set es place e)) in
        let two = sum_by-append weight (ids_of q wanted x (active_stamps settings y)) (rest_ids place fs es) in
        omega (arith, one, two, sum_set weight place fs es f e (omega (arith, long)) (omega (arith, lt)))
