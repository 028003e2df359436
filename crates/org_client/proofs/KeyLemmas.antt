-- Numbers of headings, and the sums that stand under them.
use Rattle.std.proofs.Common.{◌≡◌, ◌∙◌, inl, inr, ℕ, zero, suc, ◌+◌, ◌<◌, Bool, true, false, cond, List, [], ◌∷◌, length, get_or, take, refl, sym, ap, arith}
use Rattle.std.specs.Prelude.{◌==◌, ◌&&◌, ◌||◌, Option, Some}
use Rattle.std.specs.Cmp.{unsigned_tied}
use Rattle.std.specs.Ordering.{is_eq, nat_cmp}
use Rattle.std.proofs.lemmas.Bool.{cases_Bool, eq-eqb, eqb-true, true≢false}
use Rattle.std.proofs.lemmas.List.Folds.{list_any_more}
use Rattle.org_client.specs.Files.{NamedText}
use Rattle.org_client.specs.RowIds.{IdsView, PutsSums, has_key, heading_of, heading_sum, is_in, is_same, key_of, sum_in}
use Rattle.org_client.specs.declared.row_ids.HeadingAt.{HeadingAt}
use Rattle.org_entry.specs.declared.entry.Entry.{Entry}

-- two tests that hold together are one
pub one_test : (p q : Bool) → (p ≡ true → q ≡ true) → (q ≡ true → p ≡ true) → p ≡ q
one_test true q there back = sym (there refl)
one_test false true there back = absurd (true≢false (sym (back refl)))
one_test false false there back = refl

pub left_true : (p q : Bool) → (p && q) ≡ true → p ≡ true
left_true true q e = refl
left_true false q e = absurd (true≢false (sym e))

pub right_true : (p q : Bool) → (p && q) ≡ true → q ≡ true
right_true true q e = e
right_true false q e = absurd (true≢false (sym e))

pub both_true : (p q : Bool) → p ≡ true → q ≡ true → (p && q) ≡ true
both_true p q a b = (λ i. a i && b i)

-- a heading is that of its number
pub file_kept : (at : HeadingAt) → has_key at ≡ true → (heading_of (key_of at)).file ≡ at.file
file_kept at h = eqb-true (heading_of (key_of at)).file at.file (left_true ((heading_of (key_of at)).file == at.file) ((heading_of (key_of at)).heading == at.heading) h)

pub heading_kept : (at : HeadingAt) → has_key at ≡ true → (heading_of (key_of at)).heading ≡ at.heading
heading_kept at h = eqb-true (heading_of (key_of at)).heading at.heading (right_true ((heading_of (key_of at)).file == at.file) ((heading_of (key_of at)).heading == at.heading) h)

-- two headings have one number where they are the same
pub one_key : (a b : HeadingAt) → has_key a ≡ true → has_key b ≡ true → is_eq (nat_cmp (key_of b) (key_of a)) ≡ is_same a b
one_key a b ha hb = unsigned_tied (key_of b) (key_of a) ∙ one_test (key_of b == key_of a) (is_same a b) there back
  where
    there : (key_of b == key_of a) ≡ true → is_same a b ≡ true
    there e =
        let same : key_of b ≡ key_of a = eqb-true (key_of b) (key_of a) e in
        let files : a.file ≡ b.file = sym (file_kept a ha) ∙ ap (λ (k : ℕ). (heading_of k).file) (sym same) ∙ file_kept b hb in
        let headings : a.heading ≡ b.heading = sym (heading_kept a ha) ∙ ap (λ (k : ℕ). (heading_of k).heading) (sym same) ∙ heading_kept b hb in
        both_true (a.file == b.file) (a.heading == b.heading) (eq-eqb a.file b.file files) (eq-eqb a.heading b.heading headings)

    back : is_same a b ≡ true → (key_of b == key_of a) ≡ true
    back e =
        let files : b.file ≡ a.file = sym (eqb-true a.file b.file (left_true (a.file == b.file) (a.heading == b.heading) e)) in
        let headings : b.heading ≡ a.heading = sym (eqb-true a.heading b.heading (right_true (a.file == b.file) (a.heading == b.heading) e)) in
        let same : b ≡ a = λ i. record { file = files i; heading = headings i } in
        eq-eqb (key_of b) (key_of a) (ap key_of same)

-- one sum more
put_step : (file before same section : Bool) (old : Option ℕ) (sum own : ℕ) → same ≡ (file && section) → (same ≡ true → sum ≡ own) →
    cond same (Some sum) (cond (file && before) (Some own) old) ≡ cond (file && (before || section)) (Some own) old
put_step true true same section old sum own e is = elim (cases_Bool same) [
  | inl held ↦ ap (λ (b : Bool). cond b (Some sum) (Some own)) held ∙ ap Some (is held)
  | inr other ↦ ap (λ (b : Bool). cond b (Some sum) (Some own)) other
]
put_step true false same true old sum own e is = ap (λ (b : Bool). cond b (Some sum) old) e ∙ ap Some (is e)
put_step true false same false old sum own e is = ap (λ (b : Bool). cond b (Some sum) old) e
put_step false before same section old sum own e is = ap (λ (b : Bool). cond b (Some sum) old) e

module _ (first old new : IdsView) (file : NamedText) (entries : List Entry) (place : ℕ) (sections : List ℕ) (k sum : ℕ) (there : k < length sections) where
  pub puts_more : PutsSums first old file entries place (take k sections) → has_key (record { file = place; heading = get_or sections k 0 }) ≡ true → sum ≡ heading_sum file entries (get_or sections k 0) →
      ((key : ℕ) → sum_in new key ≡ cond (is_eq (nat_cmp (key_of (record { file = place; heading = get_or sections k 0 })) key)) (Some sum) (sum_in old key)) →
      PutsSums first new file entries place (take (k + 1) sections)
  puts_more before keyed is put at own =
      let here : HeadingAt = record { file = place; heading = get_or sections k 0 } in
      let same : Bool = is_eq (nat_cmp (key_of here) (key_of at)) in
      let which : same ≡ ((at.file == place) && (at.heading == get_or sections k 0)) = one_key at here own keyed in
      put (key_of at)
      ∙ ap (λ (o : Option ℕ). cond same (Some sum) o) (before at own)
      ∙ put_step (at.file == place) (is_in (take k sections) at.heading) same (at.heading == get_or sections k 0) (sum_in first (key_of at)) sum (heading_sum file entries at.heading)
      which (λ held. is ∙ ap (heading_sum file entries) (sym (eqb-true at.heading (get_or sections k 0) (right_true (at.file == place) (at.heading == get_or sections k 0) (sym which ∙ held)))))
      ∙ ap (λ (b : Bool). cond ((at.file == place) && b) (Some (heading_sum file entries at.heading)) (sum_in first (key_of at)))
      (ap (λ (b : Bool). is_in (take k sections) at.heading || b) (swap at.heading (get_or sections k 0)) ∙ sym (list_any_more (λ (other : ℕ). other == at.heading) sections k 0 there))
    where
      swap : (a b : ℕ) → (a == b) ≡ (b == a)
      swap a b = one_test (a == b) (b == a) (λ e. eq-eqb b a (sym (eqb-true a b e))) (λ e. eq-eqb a b (sym (eqb-true b a e)))

-- at first none is put
pub puts_none : (ids : IdsView) (file : NamedText) (entries : List Entry) (place : ℕ) → PutsSums ids ids file entries place []
puts_none ids file entries place at own = none (at.file == place)
  where
    none : (b : Bool) → sum_in ids (key_of at) ≡ cond (b && false) (Some (heading_sum file entries at.heading)) (sum_in ids (key_of at))
    none true = refl
    none false = refl

-- each of some sections is among them
pub is_among : (sections : List ℕ) (k : ℕ) → k < length sections → is_in sections (get_or sections k 0) ≡ true
is_among [] k h = absurd (omega (arith, h))
is_among (s ∷ sections) zero h = first (s == s) (is_in sections s) (eq-eqb s s refl)
  where
    first : (here rest : Bool) → here ≡ true → (here || rest) ≡ true
    first here rest e = ap (λ (b : Bool). b || rest) e
is_among (s ∷ sections) (suc k) h = later (s == get_or sections k 0) (is_in sections (get_or sections k 0)) (is_among sections k (omega (arith, h)))
  where
    later : (here rest : Bool) → rest ≡ true → (here || rest) ≡ true
    later true rest e = refl
    later false rest e = e
