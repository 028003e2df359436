-- Of equal tags the first stays, and the others keep their order.
use Rattle.std.proofs.Common.{◌≡◌, ℕ, zero, suc, ◌<◌, true, false, ◌++◌, Some, List, [], ◌∷◌, length, slice_get, fold, reverse, refl, sym, subst, ap, ◌∙◌, inl, inr, arith, Bool, append-nil, append_assoc}
use Rattle.std.specs.Prelude.{bytes_eq}
use Rattle.std.specs.List.{list_any, flat_map, position_or_len}
use Rattle.std.proofs.lemmas.Bool.{cases_Bool, cases_lt}
use Rattle.std.proofs.lemmas.Grind.{flat_map-append}
use Rattle.std.proofs.lemmas.Slice.Eq.{bytes_eq-Decides}
use Rattle.org_inherit.specs.Laws.{TagsKeepTheirOrder, tags_named, first_place}
use Rattle.org_inherit.specs.Tags.{with_tag, own_tags_at, lineage, firsts}
use Rattle.org_inherit.proofs.LawLemmas.{any_added, not_there, pushed}
use Rattle.org_inherit.proofs.TagLemmas.{tag_added, tag_left}
use Rattle.org_outline.specs.Levels.{levels}
use Rattle.org_outline.specs.Tree.{ancestors}

-- what is there has a place, and what is not has none
place_there : (p : List ℕ → Bool) (xs : List (List ℕ)) → list_any p xs ≡ true → position_or_len p xs < length xs
place_there p [] h = absurd (cc)
place_there p (x ∷ xs) h = elim (cases_Bool (p x)) [
  | inl hit ↦ rw hit (omega arith)
  | inr miss ↦ rw miss (let more = place_there p xs (rw miss at h) in omega (arith, more))
]

place_absent : (p : List ℕ → Bool) (xs : List (List ℕ)) → list_any p xs ≡ false → position_or_len p xs ≡ length xs
place_absent p [] h = refl
place_absent p (x ∷ xs) h = elim (cases_Bool (p x)) [
  | inl hit ↦ absurd (let wrong : true ≡ false = rw hit at h in cc)
  | inr miss ↦ rw miss (let more = place_absent p xs (rw miss at h) in omega (arith, more))
]

-- the place stays where something is put after
place_kept : (p : List ℕ → Bool) (xs : List (List ℕ)) (y : List ℕ) → list_any p xs ≡ true → position_or_len p (xs ++ y ∷ []) ≡ position_or_len p xs
place_kept p [] y h = absurd (cc)
place_kept p (x ∷ xs) y h = elim (cases_Bool (p x)) [
  | inl hit ↦ rw hit refl
  | inr miss ↦ rw miss (let more = place_kept p xs y (rw miss at h) in omega (arith, more))
]

-- what was put after, and is not there, has the last place
place_last : (p : List ℕ → Bool) (xs : List (List ℕ)) (y : List ℕ) → list_any p xs ≡ false → p y ≡ true → position_or_len p (xs ++ y ∷ []) ≡ length xs
place_last p [] y h hit = rw hit refl
place_last p (x ∷ xs) y h hit = elim (cases_Bool (p x)) [
  | inl other ↦ absurd (let wrong : true ≡ false = rw other at h in cc)
  | inr miss ↦ rw miss (let more = place_last p xs y (rw miss at h) hit in omega (arith, more))
]

is_there : (xs : List (List ℕ)) (x : List ℕ) (j : ℕ) → slice_get xs j ≡ Some x → list_any (bytes_eq x) xs ≡ true
is_there xs x j e = elim (cases_Bool (list_any (bytes_eq x) xs)) [
  | inl there ↦ there
  | inr absent ↦ absurd (not_there xs x j absent e)
]

-- the tags are those of the list, ordered by where each is named first
record AreOrdered (tags all : List (List ℕ)) : Type 0 where
  pub same : (q : List ℕ) → list_any (bytes_eq q) tags ≡ list_any (bytes_eq q) all
  pub ordered : (j k : ℕ) (a b : List ℕ) → j < k → slice_get tags j ≡ Some a → slice_get tags k ≡ Some b → first_place a all < first_place b all

within : (xs : List (List ℕ)) (x : List ℕ) (j : ℕ) → slice_get xs j ≡ Some x → j < length xs
within [] x j e = absurd (cc)
within (y ∷ ys) x zero e = omega arith
within (y ∷ ys) x (suc j) e = omega (arith, within ys x j e)

-- a tag that is named after all others
ordered_left : (tags all : List (List ℕ)) (x : List ℕ) → AreOrdered tags all → (j k : ℕ) (a b : List ℕ) → j < k → slice_get tags j ≡ Some a → slice_get tags k ≡ Some b → first_place a (all ++ x ∷ []) < first_place b (all ++ x ∷ [])
ordered_left tags all x h j k a b lt first second =
    let there_a = sym (h.same a) ∙ is_there tags a j first in
    let there_b = sym (h.same b) ∙ is_there tags b k second in
    let was = h.ordered j k a b lt first second in
    omega (arith, was, place_kept (bytes_eq a) all x there_a, place_kept (bytes_eq b) all x there_b)

ordered_more : (tags all : List (List ℕ)) (x : List ℕ) → AreOrdered tags all → list_any (bytes_eq x) tags ≡ false → (j k : ℕ) (a b : List ℕ) → j < k → slice_get (tags ++ x ∷ []) j ≡ Some a → slice_get (tags ++ x ∷ []) k ≡ Some b → first_place a (all ++ x ∷ []) < first_place b (all ++ x ∷ [])
ordered_more tags all x h fresh j k a b lt first second = elim (pushed tags x a j first) [
  | inl c ↦ elim (pushed tags x b k second) [
    | inl d ↦ ordered_left tags all x h j k a b lt c d
    | inr d ↦
        let there_a = sym (h.same a) ∙ is_there tags a j c in
        let absent : list_any (bytes_eq b) all ≡ false = subst (λ t. list_any (bytes_eq t) all ≡ false) d.1 (sym (h.same x) ∙ fresh) in
        let end = place_last (bytes_eq b) all x absent ((bytes_eq-Decides b x).1 (sym d.1)) in
        omega (arith, place_kept (bytes_eq a) all x there_a, place_there (bytes_eq a) all there_a, end)
  ]
  | inr c ↦ elim (pushed tags x b k second) [
    | inl d ↦ absurd (omega (arith, c.0, lt, within tags b k d))
    | inr d ↦ absurd (omega (arith, c.0, d.0, lt))
  ]
]

-- the tags of a list with one more
ordered_with : (tags all : List (List ℕ)) (x : List ℕ) → AreOrdered tags all → ((q : List ℕ) → list_any (bytes_eq q) (with_tag tags x) ≡ list_any (bytes_eq q) (all ++ x ∷ [])) → AreOrdered (with_tag tags x) (all ++ x ∷ [])
ordered_with tags all x h are = elim (cases_Bool (list_any (bytes_eq x) tags)) [
  | inl again ↦
      let left = tag_left tags x again in
      subst (λ t. AreOrdered t (all ++ x ∷ [])) (sym left)
      (record { same = λ q. ap (list_any (bytes_eq q)) (sym left) ∙ are q; ordered = ordered_left tags all x h })
  | inr fresh ↦
      let added = tag_added tags x fresh in
      subst (λ t. AreOrdered t (all ++ x ∷ [])) (sym added)
      (record { same = λ q. ap (list_any (bytes_eq q)) (sym added) ∙ are q; ordered = ordered_more tags all x h fresh })
]

fold_more : (more : List (List ℕ)) (x : List ℕ) (start : List (List ℕ)) → fold with_tag start (more ++ x ∷ []) ≡ with_tag (fold with_tag start more) x
fold_more [] x start = refl
fold_more (m ∷ more) x start = fold_more more x (with_tag start m)

ordered_from : (more done : List (List ℕ)) → AreOrdered (firsts done) done → AreOrdered (firsts (done ++ more)) (done ++ more)
ordered_from [] done h = subst (λ t. AreOrdered (firsts t) t) (sym (append-nil done)) h
ordered_from (x ∷ more) done h =
    let last = fold_more done x [] in
    let next : AreOrdered (firsts (done ++ x ∷ [])) (done ++ x ∷ []) =
    subst (λ t. AreOrdered t (done ++ x ∷ [])) (sym last)
    (ordered_with (firsts done) done x h (λ q. ap (list_any (bytes_eq q)) (sym last) ∙ any_added (done ++ x ∷ []) [] q)) in
    subst (λ t. AreOrdered (firsts t) t) (append_assoc done (x ∷ []) more) (ordered_from more (done ++ x ∷ []) next)

all_ordered : (all : List (List ℕ)) → AreOrdered (firsts all) all
all_ordered all = ordered_from all [] (record { same = λ q. refl; ordered = λ j k a b lt first second. absurd (cc) })

either_way : (tags all : List (List ℕ)) → AreOrdered tags all → (j k : ℕ) (a b : List ℕ) → slice_get tags j ≡ Some a → slice_get tags k ≡ Some b → first_place a all < first_place b all → j < k
either_way tags all h j k a b first second before = elim (cases_lt j k) [
  | inl lt ↦ lt
  | inr ge ↦ elim (cases_lt k j) [
    | inl gt ↦ let back = h.ordered k j b a gt second first in absurd (omega (arith, back, before))
    | inr le ↦
        let one : j ≡ k = omega (arith, ge, le) in
        let same : Some a ≡ Some b = sym first ∙ (ap (slice_get tags) one ∙ second) in
        let equal : a ≡ b = cc in
        let place : first_place a all ≡ first_place b all = ap (λ t. first_place t all) equal in
        absurd (omega (arith, place, before))
  ]
]

flat_one : (f : ℕ → List (List ℕ)) (i : ℕ) → flat_map f (i ∷ []) ≡ f i
flat_one f i = append-nil (f i)

-- the tags along the lineage are those of the ancestors and the own ones
named_is : (f : ℕ → List (List ℕ)) (file : List (List ℕ)) (above : List ℕ) (i : ℕ) → file ++ flat_map f (above ++ i ∷ []) ≡ file ++ (flat_map f above ++ f i)
named_is f file above i = ap (λ t. file ++ t) (flat_map-append f above (i ∷ []) ∙ ap (λ t. flat_map f above ++ t) (flat_one f i))

pub tags_keep_their_order : TagsKeepTheirOrder
tags_keep_their_order scope i j k a b first second =
    let es = scope.entries in
    let along : List (List ℕ) = scope.settings.file_tags ++ flat_map (own_tags_at es) (lineage es i) in
    let is : along ≡ tags_named scope i = named_is (own_tags_at es) scope.settings.file_tags (reverse (ancestors (levels es) i)) i in
    let h : AreOrdered (firsts along) (tags_named scope i) = subst (AreOrdered (firsts along)) is (all_ordered along) in
    (λ lt. h.ordered j k a b lt first second, either_way (firsts along) (tags_named scope i) h j k a b first second)
