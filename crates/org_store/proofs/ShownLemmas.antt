-- An outline beside the sections whose entries it has.
use Rattle.std.proofs.Common.{◌≡◌, ◌∙◌, inl, inr, ℕ, zero, suc, ◌+◌, ◌-◌, ◌<◌, ◌≤◌, false, cond, List, [], ◌∷◌, ◌++◌, map, length, take, drop, refl, sym, ap, subst, arith, length-append}
use Rattle.std.specs.Prelude.{Option, None, Some, IfSome, is_none, slice_set}
use Rattle.std.specs.List.{AllZip, count_by, splice}
use Rattle.std.proofs.lemmas.Bool.{cases_Bool}
use Rattle.std.proofs.lemmas.List.{drop-drop, length-drop, length-map, length-take-le, set_split, take-append-drop}
use Rattle.std.proofs.lemmas.List.Sums.{sum_by-cons}
use Rattle.org_entry.specs.declared.entry.Entry.{Entry}
use Rattle.org_store.specs.Sections.{IsLeft, SaysSo, SectionView, entries_in, fresh_section, is_pending, said, with_said}
use Rattle.org_store.proofs.KeptLemmas.{zip_splice}

-- an item put in by a list of one
pub splice_one : {X : Type 0} (xs : List X) (i : ℕ) (x : X) → i < length xs → splice xs i (i + 1) (x ∷ []) ≡ slice_set xs i x
splice_one xs i x lt = let next : i + 1 ≡ suc i = omega arith in ap (λ n. take i xs ++ x ∷ drop n xs) next ∙ sym (set_split xs i x lt)

-- as many sections as entries
pub as_many : (list : List SectionView) (entries : List Entry) → AllZip SaysSo list entries → length entries ≡ length list
as_many [] [] h = refl
as_many [] (e ∷ es) h = absurd h
as_many (k ∷ ks) [] h = absurd h
as_many (k ∷ ks) (e ∷ es) h = ap suc (as_many ks es h.1)

-- a section and what it says, put in the same place
pub put_said : (list : List SectionView) (entries : List Entry) (i : ℕ) (k : SectionView) (o : Option Entry) → k.entry ≡ o → AllZip SaysSo list entries → AllZip SaysSo (slice_set list i k) (with_said o i entries)
put_said [] [] i k None is h = tt
put_said [] [] i k (Some x) is h = tt
put_said [] (e ∷ es) i k o is h = absurd h
put_said (j ∷ ks) [] i k o is h = absurd h
put_said (j ∷ ks) (e ∷ es) zero k None is h = (subst (λ (x : Option Entry). IfSome x (λ own. own ≡ e)) (sym is) tt, h.1)
put_said (j ∷ ks) (e ∷ es) zero k (Some x) is h = (subst (λ (y : Option Entry). IfSome y (λ own. own ≡ x)) (sym is) refl, h.1)
put_said (j ∷ ks) (e ∷ es) (suc i) k None is h = (h.0, put_said ks es i k None is h.1)
put_said (j ∷ ks) (e ∷ es) (suc i) k (Some x) is h = (h.0, put_said ks es i k (Some x) is h.1)

-- sections that are left say no more than before
left_says : (was now : Option Entry) (e : Entry) → IfSome was (λ own. own ≡ e) → IfSome now (λ entry. was ≡ Some entry) → IfSome now (λ own. own ≡ e)
left_says was None e h left = tt
left_says was (Some x) e h left = subst (λ (y : Option Entry). IfSome y (λ own. own ≡ e)) left h

pub shown_left : (was now : List SectionView) (entries : List Entry) → AllZip SaysSo was entries → AllZip IsLeft was now → AllZip SaysSo now entries
shown_left [] [] es h left = h
shown_left [] (n ∷ now) es h left = absurd left
shown_left (w ∷ was) [] es h left = absurd left
shown_left (w ∷ was) (n ∷ now) [] h left = absurd h
shown_left (w ∷ was) (n ∷ now) (e ∷ es) h left = (left_says w.entry n.entry e h.0 left.0, shown_left was now es h.1 left.1)

-- where none is pending, an outline has what all of them say
own_said : (o : Option Entry) (e : Entry) (es rest : List Entry) → IfSome o (λ own. own ≡ e) → is_none o ≡ false → es ≡ rest → e ∷ es ≡ said o ++ rest
own_said None e es rest h some same = absurd cc
own_said (Some x) e es rest h some same = λ i. sym h i ∷ same i

pub shown_all : (list : List SectionView) (entries : List Entry) → AllZip SaysSo list entries → count_by is_pending list ≡ 0 → entries ≡ entries_in list
shown_all [] [] h none = refl
shown_all [] (e ∷ es) h none = absurd h
shown_all (k ∷ ks) [] h none = absurd h
shown_all (k ∷ ks) (e ∷ es) h none =
    let count = sum_by-cons (λ (x : SectionView). cond (is_pending x) 1 0) k ks in
    elim (cases_Bool (is_pending k)) [
      | inl yes_is ↦ absurd (let one : ◌≡◌ {A = ℕ} (cond (is_pending k) 1 0) 1 = rw yes_is refl in omega (arith, count, one))
      | inr no_is ↦
          let own : ◌≡◌ {A = ℕ} (cond (is_pending k) 1 0) 0 = rw no_is refl in
          own_said k.entry e es (entries_in ks) h.0 no_is (shown_all ks es h.1 (omega (arith, count, own)))
    ]

said_own : (k : SectionView) (o : Option Entry) (ks : List SectionView) (rest : List Entry) → k.entry ≡ o → is_none o ≡ false → AllZip SaysSo ks rest → AllZip SaysSo (k ∷ ks) (said o ++ rest)
said_own k None ks rest is some h = absurd cc
said_own k (Some x) ks rest is some h = (subst (λ (y : Option Entry). IfSome y (λ own. own ≡ x)) (sym is) refl, h)

pub all_shown : (list : List SectionView) → count_by is_pending list ≡ 0 → AllZip SaysSo list (entries_in list)
all_shown [] none = tt
all_shown (k ∷ ks) none =
    let count = sum_by-cons (λ (x : SectionView). cond (is_pending x) 1 0) k ks in
    elim (cases_Bool (is_pending k)) [
      | inl yes_is ↦ absurd (let one : ◌≡◌ {A = ℕ} (cond (is_pending k) 1 0) 1 = rw yes_is refl in omega (arith, count, one))
      | inr no_is ↦
          let own : ◌≡◌ {A = ℕ} (cond (is_pending k) 1 0) 0 = rw no_is refl in
          said_own k k.entry ks (entries_in ks) refl no_is (all_shown ks (omega (arith, count, own)))
    ]

-- a part of a list in its own place
whole : {X : Type 0} (xs : List X) (f e : ℕ) → f ≤ e → splice xs f e (take (e - f) (drop f xs)) ≡ xs
whole xs f e order =
    let to : f + (e - f) ≡ e = omega arith in
    ap (λ ys. take f xs ++ (take (e - f) (drop f xs) ++ ys)) (ap (λ n. drop n xs) (sym to) ∙ sym (drop-drop (e - f) f xs))
    ∙ (ap (λ ys. take f xs ++ ys) (take-append-drop (e - f) (drop f xs)) ∙ take-append-drop f xs)

pub splice_length : {X : Type 0} (xs us : List X) (f e : ℕ) → f ≤ length xs → length (splice xs f e us) ≡ f + length us + (length xs - e)
splice_length xs us f e within =
    omega (arith, length-append (take f xs) (us ++ drop e xs), length-append us (drop e xs), length-take-le f xs within, length-drop e xs)

left_own : (k : SectionView) (o : Option Entry) → k.entry ≡ o → IfSome o (λ entry. k.entry ≡ Some entry)
left_own k None is = tt
left_own k (Some x) is = is

left_same : (list : List SectionView) → AllZip IsLeft list list
left_same [] = tt
left_same (k ∷ ks) = (left_own k k.entry refl, left_same ks)

left_fresh : (list : List SectionView) (ss : List (List ℕ)) → length list ≡ length ss → AllZip IsLeft list (map fresh_section ss)
left_fresh [] [] many = tt
left_fresh [] (s ∷ ss) many = absurd (omega arith)
left_fresh (k ∷ ks) [] many = absurd (omega arith)
left_fresh (k ∷ ks) (s ∷ ss) many = (tt, left_fresh ks ss (omega (arith, many)))

-- as many new sections in the place of others
pub left_spliced : (list : List SectionView) (f e : ℕ) (ss : List (List ℕ)) → f ≤ e → e ≤ length list → length (splice list f e (map fresh_section ss)) ≡ length list → AllZip IsLeft list (splice list f e (map fresh_section ss))
left_spliced list f e ss order within many =
    let own = take (e - f) (drop f list) in
    let fresh = map fresh_section ss in
    let lengths = length-drop f list in
    let count : length own ≡ length ss = omega (arith, many, splice_length list fresh f e (omega arith), length-map ss fresh_section, length-take-le (e - f) (drop f list) (omega (arith, lengths)), lengths) in
    subst (λ ks. AllZip IsLeft ks (splice list f e fresh)) (whole list f e order) (zip_splice IsLeft list own list fresh f e (left_same list) (left_fresh own ss count))
