-- The first line of a text.
use Rattle.std.proofs.Common.{◌≡◌, ℕ, suc, ◌+◌, ◌==◌, nat_lt, ◌≤◌, Bool, true, false, cond, Option, Some, None, List, [], ◌∷◌, ◌++◌, length, length-take, take, get_or, refl, sym, ap, ◌∙◌, inl, inr, arith}
use Rattle.std.proofs.lemmas.Bool.{cases_Bool, false_from_ne_true, le-ltb, lt-ltb, ltb-false}
use Rattle.std.proofs.lemmas.List.{take_all}
use Rattle.std.proofs.lemmas.List.Sums.{position_or_len_is}
use Rattle.memchr.specs.Find.{IsFirstByte, is_byte}
use Rattle.std.specs.List.{onto_first, position_or_len, position}
use Rattle.org_lines.specs.Cuts.{lines}

-- the first line, which is empty where there is none
abbrev pub first : List ℕ → List ℕ
first t = get_or (lines t) 0 []

-- where the first line feed stands
abbrev feed : List ℕ → ℕ
feed t = position_or_len (λ b. b == 10) t

pub first-onto : (b : ℕ) (ls : List (List ℕ)) → get_or (onto_first b ls) 0 [] ≡ b ∷ get_or ls 0 []
first-onto b [] = refl
first-onto b (l ∷ ls) = refl

-- it ends with the first line feed
first_is : (t : List ℕ) → first t ≡ take (suc (feed t)) t
first_is [] = refl
first_is (b ∷ bs) = elim (cases_Bool (b == 10)) [
  | inl e ↦ rw e refl
  | inr e ↦
      let next : suc (feed bs) ≡ 1 + feed bs = omega arith in
      rw e (first-onto b (lines bs) ∙ ap (λ l. b ∷ l) (first_is bs ∙ ap (λ n. take n bs) next))
]

test_some : (test : Bool) (n i : ℕ) → cond test (Some n) None ≡ Some i → n ≡ i
test_some true n i e = cc
test_some false n i e = absurd cc

test_none : (test : Bool) (n : ℕ) → cond test (Some n) None ≡ None → test ≡ false
test_none true n e = absurd cc
test_none false n e = refl

-- it is no longer than the text
pub first_within : (t : List ℕ) → length (first t) ≤ length t
first_within t = omega (arith, ap length (first_is t), length-take (suc (feed t)) t)

pub up_to_feed : (t : List ℕ) (i : ℕ) → position (λ b. b == 10) t ≡ Some i → take (i + 1) t ≡ first t
up_to_feed t i e =
    let place = test_some (nat_lt (feed t) (length t)) (feed t) i e in
    let next : i + 1 ≡ suc (feed t) = omega (arith, place) in
    ap (λ n. take n t) next ∙ sym (first_is t)

pub no_feed : (t : List ℕ) → position (λ b. b == 10) t ≡ None → t ≡ first t
no_feed t e =
    let past = ltb-false (feed t) (length t) (test_none (nat_lt (feed t) (length t)) (feed t) e) in
    sym (first_is t ∙ take_all (suc (feed t)) t (omega (arith, past)))

first_onto : (b : ℕ) (bs l : List ℕ) (ls ms : List (List ℕ)) (more : List ℕ) → (b == 10) ≡ false → lines bs ≡ ms → onto_first b ms ≡ l ∷ ls → (ls ≡ [] → more ≡ []) →
    ((m : List ℕ) (rest : List (List ℕ)) → lines bs ≡ m ∷ rest → (rest ≡ [] → more ≡ []) → first (m ++ more) ≡ m) → first (l ++ more) ≡ l
first_onto b bs l ls [] more other e is last again =
    let front : l ≡ b ∷ [] = cc in
    let none : more ≡ [] = last cc in
    rw (front, none, other) refl
first_onto b bs l ls (m ∷ ms) more other e is last again =
    let front : l ≡ b ∷ m = cc in
    let rest : ls ≡ ms = cc in
    let before : first (m ++ more) ≡ m = again m ms e (λ h. last (rest ∙ h)) in
    rw (front, other) (first-onto b (lines (m ++ more)) ∙ ap (λ x. b ∷ x) before)

-- a text that begins with the first line of another begins with that line, as long as nothing follows a last line
pub first_again : (t l : List ℕ) (ls : List (List ℕ)) (more : List ℕ) → lines t ≡ l ∷ ls → (ls ≡ [] → more ≡ []) → first (l ++ more) ≡ l
first_again [] l ls more e last = absurd cc
first_again (b ∷ bs) l ls more e last = elim (cases_Bool (b == 10)) [
  | inl feed ↦
      let is : (b ∷ []) ∷ lines bs ≡ l ∷ ls = rw feed at e in
      let front : l ≡ b ∷ [] = cc in
      rw (front, feed) refl
  | inr other ↦
      let is : onto_first b (lines bs) ≡ l ∷ ls = rw other at e in
      first_onto b bs l ls (lines bs) more other refl is last (λ m ms k h. first_again bs m ms more k h)
]

-- the first line feed, as a search finds it
pub feed_is : (text : List ℕ) (found : Option ℕ) → IsFirstByte (is_byte 10) text found → found ≡ position (λ b. b == 10) text
feed_is text None h =
    let at = position_or_len_is (is_byte 10) text (length text) 0 (omega arith) (λ k lt. false_from_ne_true _ (h k (omega arith) lt)) (λ lt. absurd (omega (arith, lt))) in
    rw (at, le-ltb (length text) (length text) (omega arith)) refl
feed_is text (Some i) h =
    let at = position_or_len_is (is_byte 10) text i 0 (omega (arith, h.0.high)) (λ k lt. false_from_ne_true _ (h.0.before k (omega arith) lt)) (λ lt. h.1) in
    rw (at, lt-ltb i (length text) h.0.high) refl
