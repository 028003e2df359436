-- Properties with the same texts answer alike.
use Rattle.std.proofs.Common.{◌≡◌, ◌∙◌, ◌<◌, ◌+◌, ℕ, zero, suc, drop, get_or, length, arith, true, false, ◌&&◌, cond, List, [], ◌∷◌, Option, Some, None, inl, inr, refl, ap, sym, true≢false}
use Rattle.std.specs.Prelude.{bytes_eq, slice_get}
use Rattle.std.proofs.lemmas.Bool.{and_parts, cases_Bool}
use Rattle.std.proofs.lemmas.Slice.Eq.{bytes_eq-Decides}
use Rattle.org_base.specs.Words.{same_word}
use Rattle.org_base.specs.Properties.{Given, Property, SameTextsAreSameValues, Value, folded, has_texts, is_text, same_texts, value_in, with_all, with_given}
use Rattle.org_base.specs.Shown.{shown}
use Rattle.org_base.proofs.ValueLemmas.{AreFolded, folded_more, folded_twice}

-- names that are equal but for letter case have one value
named_alike : (ps : List Property) (a b : List ℕ) → folded a ≡ folded b → value_in ps a ≡ value_in ps b
named_alike [] a b e = refl
named_alike (p ∷ ps) a b e =
    ap (λ (n : List ℕ). cond (bytes_eq n (folded p.name)) (Some p.value.text) (value_in ps a)) e
    ∙ ap (λ v. cond (same_word b p.name) (Some p.value.text) v) (named_alike ps a b e)

is_same : (a b : List ℕ) → same_word a b ≡ true → folded a ≡ folded b
is_same a b holds = (bytes_eq-Decides (folded a) (folded b)).0 holds

own_word : (a : List ℕ) → same_word a a ≡ true
own_word a = (bytes_eq-Decides (folded a) (folded a)).1 refl

text_is : (t : List ℕ) (o : Option (List ℕ)) → is_text t o ≡ true → o ≡ Some t
text_is t None holds = absurd cc
text_is t (Some own) holds = ap Some (sym ((bytes_eq-Decides t own).0 holds))

is_own_text : (t : List ℕ) (o : Option (List ℕ)) → o ≡ Some t → is_text t o ≡ true
is_own_text t None is = absurd cc
is_own_text t (Some own) is = let same : own ≡ t = cc in (bytes_eq-Decides t own).1 (sym same)

-- where each name of the second has its text in the first, so has whatever name has a value in the second
has_found : (ps qs : List Property) (name t : List ℕ) → has_texts ps qs ≡ true → value_in qs name ≡ Some t → value_in ps name ≡ Some t
has_found ps [] name t has is = absurd cc
has_found ps (q ∷ qs) name t has is =
    let both = and_parts (is_text q.value.text (value_in ps q.name)) (has_texts ps qs) has in
    elim (cases_Bool (same_word name q.name)) [
      | inl here ↦
          let text : Some q.value.text ≡ Some t = (rw here at is) in
          named_alike ps name q.name (is_same name q.name here) ∙ text_is q.value.text (value_in ps q.name) both.0 ∙ text
      | inr other ↦ has_found ps qs name t both.1 (rw other at is)
    ]

by_values : (ps qs : List Property) (name : List ℕ) (a b : Option (List ℕ)) → value_in ps name ≡ a → value_in qs name ≡ b →
    has_texts ps qs ≡ true → has_texts qs ps ≡ true → a ≡ b
by_values ps qs name None None p q one two = refl
by_values ps qs name None (Some t) p q one two = sym p ∙ has_found ps qs name t one q
by_values ps qs name (Some t) b p q one two = sym (has_found qs ps name t two p) ∙ q

alike : (ps qs : List Property) → same_texts ps qs ≡ true → (name : List ℕ) → value_in ps name ≡ value_in qs name
alike ps qs same name =
    let both = and_parts (has_texts ps qs) (has_texts qs ps) same in
    by_values ps qs name (value_in ps name) (value_in qs name) refl refl both.0 both.1

-- each name once

abbrev AreOnce : List Property → Type 0
AreOnce [] = Unit {0}
AreOnce (p ∷ ps) = (value_in ps p.name ≡ None) × AreOnce ps

gone_more : (ps : List Property) (g : Given) (name : List ℕ) → AreFolded ps → same_word name (folded g.name) ≡ false → value_in ps name ≡ None → value_in (with_given ps g) name ≡ None
gone_more [] g name all other gone = rw other refl
gone_more (p ∷ ps) g name all other gone =
    elim (cases_Bool (same_word name p.name)) [
      | inl here ↦ absurd (let some : Some p.value.text ≡ None = rw here at gone in cc)
      | inr fails ↦
          let behind : value_in ps name ≡ None = rw fails at gone in
          elim (cases_Bool (bytes_eq (folded g.name) p.name)) [
            | inl it ↦ rw (it, fails) behind
            | inr not_it ↦ rw (not_it, fails) (gone_more ps g name all.1 other behind)
          ]
    ]

other_name : (p : Property) (g : Given) → folded p.name ≡ p.name → bytes_eq (folded g.name) p.name ≡ false → same_word p.name (folded g.name) ≡ false
other_name p g small fails = elim (cases_Bool (same_word p.name (folded g.name))) [
  | inl holds ↦
      let e : folded p.name ≡ folded (folded g.name) = is_same p.name (folded g.name) holds in
      let is : folded g.name ≡ p.name = sym (sym small ∙ (e ∙ folded_twice g.name)) in
      absurd (true≢false (sym ((bytes_eq-Decides (folded g.name) p.name).1 is) ∙ fails))
  | inr e ↦ e
]

once_more : (ps : List Property) (g : Given) → AreFolded ps → AreOnce ps → AreOnce (with_given ps g)
once_more [] g all once = (refl, tt)
once_more (p ∷ ps) g all once = elim (cases_Bool (bytes_eq (folded g.name) p.name)) [
  | inl it ↦ rw it once
  | inr fails ↦ rw fails (gone_more ps g p.name all.1 (other_name p g all.0 fails) once.0, once_more ps g all.1 once.1)
]

once_all : (ps : List Property) (gs : List Given) → AreFolded ps → AreOnce ps → AreOnce (with_all ps gs)
once_all ps [] all once = once
once_all ps (g ∷ gs) all once = once_all (with_given ps g) gs (folded_more ps g all) (once_more ps g all once)

-- each has its own text
abbrev HaveOwn : List Property → List Property → Type 0
HaveOwn ps [] = Unit {0}
HaveOwn ps (q ∷ qs) = (value_in ps q.name ≡ Some q.value.text) × HaveOwn ps qs

behind_one : (p : Property) (ps qs : List Property) → value_in ps p.name ≡ None → HaveOwn ps qs → HaveOwn (p ∷ ps) qs
behind_one p ps [] gone own = tt
behind_one p ps (q ∷ qs) gone own = elim (cases_Bool (same_word q.name p.name)) [
  | inl same ↦ absurd (let none : value_in ps q.name ≡ None = named_alike ps q.name p.name (is_same q.name p.name same) ∙ gone in let some = own.0 in cc)
  | inr other ↦ ((rw other own.0), behind_one p ps qs gone own.1)
]

own_texts : (ps : List Property) → AreOnce ps → HaveOwn ps ps
own_texts [] once = tt
own_texts (p ∷ ps) once = (rw (own_word p.name) refl, behind_one p ps ps once.0 (own_texts ps once.1))

has_own : (ps qs all : List Property) → ((name : List ℕ) → value_in ps name ≡ value_in all name) → HaveOwn all qs → has_texts ps qs ≡ true
has_own ps [] all same own = refl
has_own ps (q ∷ qs) all same own =
    rw (is_own_text q.value.text (value_in ps q.name) (same q.name ∙ own.0)) (has_own ps qs all same own.1)

pub same_texts_are_same_values : SameTextsAreSameValues
same_texts_are_same_values ones others =
    let ps : List Property = with_all [] ones in
    let qs : List Property = with_all [] others in (
      alike ps qs,
      λ same.
          (rw (has_own ps qs qs same (own_texts qs (once_all [] others tt tt)))
          (has_own qs ps ps (λ name. sym (same name)) (own_texts ps (once_all [] ones tt tt)))),
    )

-- names and values from a place on: the first has its text, and so have those behind it
pub next_text : (ps : List Property) (ns : List (List ℕ)) (vs : List Value) (i : ℕ) (n : List ℕ) (v : Value) → length ns ≡ length vs → i < length ns →
    slice_get ns i ≡ Some n → v ≡ get_or vs i v →
    has_texts ps (drop i (shown ns vs)) ≡ (is_text v.text (value_in ps n) && has_texts ps (drop (i + 1) (shown ns vs)))
next_text ps [] vs i n v many lt there is = absurd (omega (arith, lt))
next_text ps (m ∷ ns) [] i n v many lt there is = absurd (omega (arith, many))
next_text ps (m ∷ ns) (w ∷ vs) zero n v many lt there is =
    let same : m ≡ n = cc in
    ap (λ (t : Value). is_text t.text (value_in ps m) && has_texts ps (shown ns vs)) (sym is)
    ∙ ap (λ (x : List ℕ). is_text v.text (value_in ps x) && has_texts ps (shown ns vs)) same
next_text ps (m ∷ ns) (w ∷ vs) (suc i) n v many lt there is = let more : suc i + 1 ≡ suc (i + 1) = omega arith in rw more (next_text ps ns vs i n v (omega (arith, many)) (omega (arith, lt)) there is)
