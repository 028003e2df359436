-- What the first byte of a line's first word says of the line.
use Rattle.std.proofs.Common.{◌≡◌, ℕ, zero, suc, ◌+◌, ◌-◌, ◌<◌, ◌≤◌, true, false, ◌==◌, List, [], ◌∷◌, length, take, drop, get_or, refl, sym, ap, ◌∙◌, inl, inr, arith}
use Rattle.std.specs.Prelude.{nat_eq, codes, slice_index}
use Rattle.std.specs.List.{prefix_len, starts_with, suffix_len}
use Rattle.std.proofs.lemmas.Bool.{cases_Bool, eqb-false, eqb-true, ne_eqb}
use Rattle.std.proofs.lemmas.Bool.Decides.{nat_tests}
use Rattle.std.proofs.lemmas.List.{drop_all, drop_more}
use Rattle.org_base.specs.Words.{is_gap, is_space, same_word, trim_start}
use Rattle.org_stamp.specs.Pair.{is_clock, past_spaces}
use Rattle.org_class.specs.Drawers.{is_drawer_open}
use Rattle.org_class.specs.LineClass.{first_byte, has_hash, line_class}
use Rattle.org_class.specs.declared.class.Class.TheVariants.{Plain}
use Rattle.org_class.proofs.MarkLemmas.{comment_has_hash, setting_has_hash}
use Rattle.org_class.proofs.HashLemmas.{small_other}

-- a byte that is no gap is the first
pub first_here : (b : ℕ) (bs : List ℕ) → is_gap b ≡ false → first_byte (b ∷ bs) ≡ b
first_here b bs e = rw e refl

-- else it stands behind
pub first_behind : (b : ℕ) (bs : List ℕ) → is_gap b ≡ true → first_byte (b ∷ bs) ≡ first_byte bs
first_behind b bs e = let step : 1 + prefix_len is_gap bs ≡ suc (prefix_len is_gap bs) = omega arith in rw (e, step) refl

pub first_found : (l : List ℕ) (k d n : ℕ) → k < length l → is_gap (get_or l k d) ≡ false → first_byte (drop k l) ≡ n → get_or l k d ≡ n
first_found l k d n within e h = sym (first_here (get_or l k d) (drop (k + 1) l) e) ∙ ap first_byte (sym (drop_more l k d within)) ∙ h

pub first_left : (l : List ℕ) (k d n : ℕ) → k < length l → is_gap (get_or l k d) ≡ true → first_byte (drop k l) ≡ n → first_byte (drop (k + 1) l) ≡ n
first_left l k d n within e h = sym (first_behind (get_or l k d) (drop (k + 1) l) e) ∙ ap first_byte (sym (drop_more l k d within)) ∙ h

pub first_none : (l : List ℕ) (k n : ℕ) → length l ≤ k → first_byte (drop k l) ≡ n → 0 ≡ n
first_none l k n past h = ap first_byte (sym (drop_all k l past)) ∙ h

-- a clock line begins with C
space_is_gap : (b : ℕ) → is_space b ≡ true → is_gap b ≡ true
space_is_gap b e = rw e refl

clock_front : (l : List ℕ) → (first_byte l == 67) ≡ false → starts_with nat_eq (past_spaces l) (codes "CLOCK:") ≡ false
clock_front [] e = refl
clock_front (b ∷ l) e = elim (cases_Bool (is_space b)) [
  | inl space ↦
      let later : (first_byte l == 67) ≡ false = ap (λ n. n == 67) (sym (first_behind b l (space_is_gap b space))) ∙ e in
      let step : 1 + prefix_len is_space l ≡ suc (prefix_len is_space l) = omega arith in
      rw (space, step) (clock_front l later)
  | inr word ↦ elim (cases_Bool (b == 67)) [
    | inl letter ↦
        let gap : is_gap b ≡ false = grind (arith, nat_tests) in
        absurd (let here : (b == 67) ≡ false = ap (λ n. n == 67) (sym (first_here b l gap)) ∙ e in cc)
    | inr other ↦
        let turned : nat_eq 67 b ≡ false = ne_eqb 67 b (λ same. eqb-false b 67 other (sym same)) in
        rw (word, turned) refl
  ]
]

pub clock_has_letter : (l : List ℕ) → (first_byte l == 67) ≡ false → is_clock l ≡ false
clock_has_letter l e = rw (clock_front l e) refl

pub clock_has_no_hash : (l : List ℕ) → has_hash l ≡ true → is_clock l ≡ false
clock_has_no_hash l e = clock_has_letter l (let is : first_byte l ≡ 35 = eqb-true (first_byte l) 35 e in rw is refl)

-- the opening line of a drawer begins with a colon
drawer_front : (n : ℕ) (t : List ℕ) → (slice_index t 0 == 58) ≡ false → same_word (take n t) (codes ":PROPERTIES:") ≡ false
drawer_front zero t e = refl
drawer_front (suc n) [] e = refl
drawer_front (suc n) (x ∷ t) e = let first = small_other x 58 (omega arith) e in rw first refl

pub drawer_has_colon : (l : List ℕ) → (first_byte l == 58) ≡ false → is_drawer_open l ≡ false
drawer_has_colon l e = drawer_front (length (trim_start l) - suffix_len is_gap (trim_start l)) (trim_start l) e

-- the same of a byte that is the first
pub plain_by_first : (l : List ℕ) (n : ℕ) → n ≡ first_byte l → (n ≡ 35 → ⊥) → (n ≡ 67 → ⊥) → Plain ≡ line_class l
plain_by_first l n is hash letter =
    let no_hash : has_hash l ≡ false = ap (λ m. m == 35) (sym is) ∙ ne_eqb n 35 hash in
    let no_letter : (first_byte l == 67) ≡ false = ap (λ m. m == 67) (sym is) ∙ ne_eqb n 67 letter in
    rw (comment_has_hash l no_hash, setting_has_hash l no_hash, clock_has_letter l no_letter) refl

pub drawer_by_first : (l : List ℕ) (n : ℕ) → n ≡ first_byte l → (n ≡ 58 → ⊥) → is_drawer_open l ≡ false
drawer_by_first l n is colon = drawer_has_colon l (ap (λ m. m == 58) (sym is) ∙ ne_eqb n 58 colon)
