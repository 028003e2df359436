-- The laws of inheritance.
use Rattle.std.proofs.Common.{◌≡◌, ℕ, zero, suc, ◌≤◌, Bool, true, false, ◌||◌, ◌==◌, ◌++◌, Option, Some, None, List, [], ◌∷◌, length, slice_get, fold, reverse, refl, sym, ap, ◌∙◌, ◌⊎◌, inl, inr, arith, true≢false}
use Rattle.std.specs.Prelude.{bytes_eq}
use Rattle.std.specs.List.{list_any, flat_map}
use Rattle.std.proofs.lemmas.Bool.{cases_Bool, eqb-true}
use Rattle.std.proofs.lemmas.List.{reverse-append}
use Rattle.std.proofs.lemmas.List.Folds.{list_any-append}
use Rattle.std.proofs.lemmas.Slice.Eq.{bytes_eq-Decides}
use Rattle.org_inherit.proofs.HiddenWords.{hides_at}
use Rattle.org_inherit.specs.Laws.{HiddenIsInherited, names_tag, TagsAreInherited, TagsAreOnce}
use Rattle.org_inherit.specs.Tags.{with_tag, own_tags_at, lineage}
use Rattle.org_inherit.proofs.TagLemmas.{tag_added, tag_left, seen_more}
use Rattle.org_outline.proofs.Chain.{chain_steps, parent_earlier}
use Rattle.org_outline.specs.Levels.{levels}
use Rattle.org_outline.specs.Tree.{parent, chain, ancestors}

or_cases : (a b : Bool) → (a || b) ≡ true → (a ≡ true) ⊎ (b ≡ true)
or_cases true b h = inl refl
or_cases false b h = inr h

pub or_right : (a b : Bool) → b ≡ true → (a || b) ≡ true
or_right true b h = refl
or_right false b h = h

abbrev next : List (Option ℕ) → ℕ → Option ℕ → List ℕ
next ls n p = elim p [ None ↦ [] | Some k ↦ k ∷ chain ls n k ]

any_next : (p : ℕ → Bool) (ls : List (Option ℕ)) (n j : ℕ) (q : Option ℕ) → ((k : ℕ) → q ≡ Some k → k ≤ n) →
    list_any (λ k. k == j) (next ls n q) ≡ true → list_any p (j ∷ ancestors ls j) ≡ true →
    ((k : ℕ) → k ≤ n → list_any (λ m. m == j) (chain ls n k) ≡ true → list_any p (chain ls n k) ≡ true) → list_any p (next ls n q) ≡ true
any_next p ls n j None within h g more = h
any_next p ls n j (Some k) within h g more = elim (or_cases (k == j) (list_any (λ m. m == j) (chain ls n k)) h) [
  | inl e ↦
      let same : k ≡ j = eqb-true k j e in
      let below : k ≤ n = within k refl in
      rw same (ap (λ v. p j || list_any p v) (chain_steps ls n j j (omega arith) (omega arith)) ∙ g)
  | inr r ↦ or_right (p k) (list_any p (chain ls n k)) (more k (within k refl) r)
]

-- what holds of an ancestor or one of its ancestors holds of an ancestor
any_above : (p : ℕ → Bool) (ls : List (Option ℕ)) (n i j : ℕ) → i ≤ n → list_any (λ k. k == j) (chain ls n i) ≡ true → list_any p (j ∷ ancestors ls j) ≡ true → list_any p (chain ls n i) ≡ true
any_above p ls zero i j l h g = h
any_above p ls (suc n) i j l h g =
    any_next p ls n j (parent ls i) (λ k e. let q = parent_earlier ls i k e in omega arith) h g (λ k a r. any_above p ls n k j a r g)

pub hidden_is_inherited : HiddenIsInherited
hidden_is_inherited es i j h g =
    or_right (hides_at es i) (list_any (hides_at es) (ancestors (levels es) i)) (any_above (hides_at es) (levels es) i i j (omega arith) h g)

or_none : (a : Bool) → a ≡ (a || false)
or_none true = refl
or_none false = refl

or_turned : (a b c : Bool) → ((b || a) || c) ≡ (a || (b || c))
or_turned true true c = refl
or_turned true false c = refl
or_turned false true c = refl
or_turned false false c = refl

or_last : (a b : Bool) → (a || (b || false)) ≡ (b || a)
or_last true true = refl
or_last true false = refl
or_last false true = refl
or_last false false = refl

-- a tag is among tags and those that were added
pub any_added : (more xs : List (List ℕ)) (tag : List ℕ) → list_any (bytes_eq tag) (fold with_tag xs more) ≡ (list_any (bytes_eq tag) xs || list_any (bytes_eq tag) more)
any_added [] xs tag = or_none (list_any (bytes_eq tag) xs)
any_added (x ∷ more) xs tag =
    any_added more (with_tag xs x) tag
    ∙ ap (λ b. b || list_any (bytes_eq tag) more) (sym (seen_more xs x (λ q. list_any (bytes_eq q) xs) (λ q. bytes_eq q x || list_any (bytes_eq q) xs) (λ q. refl) (λ q. refl) tag))
    ∙ or_turned (list_any (bytes_eq tag) xs) (bytes_eq tag x) (list_any (bytes_eq tag) more)

any_joined : (p : List ℕ → Bool) (f : ℕ → List (List ℕ)) (js : List ℕ) → list_any p (flat_map f js) ≡ list_any (λ j. list_any p (f j)) js
any_joined p f [] = refl
any_joined p f (j ∷ js) = list_any-append p (f j) (flat_map f js) ∙ ap (λ b. list_any p (f j) || b) (any_joined p f js)

any_reversed : (p : ℕ → Bool) (xs : List ℕ) → list_any p (reverse xs) ≡ list_any p xs
any_reversed p [] = refl
any_reversed p (x ∷ xs) =
    ap (list_any p) (reverse-append (x ∷ []) xs)
    ∙ list_any-append p (reverse xs) (x ∷ [])
    ∙ or_last (list_any p (reverse xs)) (p x)
    ∙ ap (λ b. p x || b) (any_reversed p xs)

pub tags_are_inherited : TagsAreInherited
tags_are_inherited scope i tag =
    let es = scope.entries in
    let file = scope.settings.file_tags in
    let above : List ℕ = ancestors (levels es) i in
    any_added (file ++ flat_map (own_tags_at es) (lineage es i)) [] tag
    ∙ list_any-append (bytes_eq tag) file (flat_map (own_tags_at es) (lineage es i))
    ∙ ap (λ b. list_any (bytes_eq tag) file || b)
    (any_joined (bytes_eq tag) (own_tags_at es) (lineage es i)
    ∙ list_any-append (names_tag es tag) (reverse above) (i ∷ [])
    ∙ or_last (list_any (names_tag es tag) (reverse above)) (names_tag es tag i)
    ∙ ap (λ b. names_tag es tag i || b) (any_reversed (names_tag es tag) above))

-- no text stands twice
abbrev pub AreOnce : List (List ℕ) → Type 0
AreOnce xs = (j k : ℕ) (x : List ℕ) → slice_get xs j ≡ Some x → slice_get xs k ≡ Some x → j ≡ k

pub not_there : (xs : List (List ℕ)) (x : List ℕ) (j : ℕ) → list_any (bytes_eq x) xs ≡ false → slice_get xs j ≡ Some x → ⊥
not_there [] x j h e = cc
not_there (y ∷ ys) x zero h e =
    let same : y ≡ x = cc in
    let equal : bytes_eq x y ≡ true = (bytes_eq-Decides x y).1 (sym same) in
    true≢false (sym (ap (λ b. b || list_any (bytes_eq x) ys) equal) ∙ h)
not_there (y ∷ ys) x (suc j) h e = elim (cases_Bool (list_any (bytes_eq x) ys)) [
  | inl there ↦ true≢false (sym (or_right (bytes_eq x y) (list_any (bytes_eq x) ys) there) ∙ h)
  | inr absent ↦ not_there ys x j absent e
]

-- what stands in a list with one more at its end
pub pushed : (xs : List (List ℕ)) (x y : List ℕ) (j : ℕ) → slice_get (xs ++ x ∷ []) j ≡ Some y → (slice_get xs j ≡ Some y) ⊎ ((j ≡ length xs) × (x ≡ y))
pushed [] x y zero h = inr (refl, cc)
pushed [] x y (suc j) h = absurd cc
pushed (z ∷ zs) x y zero h = inl h
pushed (z ∷ zs) x y (suc j) h = elim (pushed zs x y j h) [
  | inl e ↦ inl e
  | inr e ↦ inr (omega (arith, e.0), e.1)
]

once_pushed : (xs : List (List ℕ)) (x : List ℕ) → AreOnce xs → list_any (bytes_eq x) xs ≡ false → AreOnce (xs ++ x ∷ [])
once_pushed xs x once fresh j k y a b = elim (pushed xs x y j a) [
  | inl c ↦ elim (pushed xs x y k b) [
    | inl d ↦ once j k y c d
    | inr d ↦ absurd (not_there xs x j fresh (c ∙ ap Some (sym d.1)))
  ]
  | inr c ↦ elim (pushed xs x y k b) [
    | inl d ↦ absurd (not_there xs x k fresh (d ∙ ap Some (sym c.1)))
    | inr d ↦ c.0 ∙ sym d.0
  ]
]

once_with : (xs : List (List ℕ)) (x : List ℕ) → AreOnce xs → AreOnce (with_tag xs x)
once_with xs x once = elim (cases_Bool (list_any (bytes_eq x) xs)) [
  | inl again ↦ rw (tag_left xs x again) once
  | inr fresh ↦ rw (tag_added xs x fresh) (once_pushed xs x once fresh)
]

once_all : (more xs : List (List ℕ)) → AreOnce xs → AreOnce (fold with_tag xs more)
once_all [] xs once = once
once_all (x ∷ more) xs once = once_all more (with_tag xs x) (once_with xs x once)

pub tags_are_once : TagsAreOnce
tags_are_once scope i =
    once_all (scope.settings.file_tags ++ flat_map (own_tags_at scope.entries) (lineage scope.entries i)) [] (λ j k x a b. absurd cc)
