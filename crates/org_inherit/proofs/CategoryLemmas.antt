-- Where a name is cut.
use Rattle.std.proofs.Common.{◌≡◌, ◌∙◌, ℕ, zero, suc, ◌+◌, ◌-◌, ◌<◌, ◌≤◌, Bool, List, length, take, get_or, arith, inl, inr, ap, subst}
use Rattle.std.specs.Prelude.{not, ◌==◌}
use Rattle.std.specs.List.{suffix_len}
use Rattle.std.specs.Str.{IsUtf8, IsCharBoundary}
use Rattle.std.proofs.lemmas.List.{take_all}
use Rattle.std.proofs.lemmas.List.Sums.{suffix_len-take_yes, suffix_len-take_no}
use Rattle.std.proofs.lemmas.Bool.{cases_Bool, cases_lt, eqb-true, not-false}
use Rattle.std.proofs.lemmas.Str.{IsCharBoundary-after_ascii, IsCharBoundary-before_ascii, IsCharBoundary-start}

abbrev pub is_other : ℕ → ℕ → Bool
is_other m b = not (b == m)

-- before the elements at the end that are no m stands one that is
mark_of_front : (m : ℕ) (xs : List ℕ) (n : ℕ) → n ≤ length xs → suffix_len (is_other m) (take n xs) < n → get_or xs (n - suffix_len (is_other m) (take n xs) - 1) 0 ≡ m
mark_of_front m xs zero le lt = absurd (omega arith)
mark_of_front m xs (suc n) le lt =
    let some : 0 < suc n = omega arith in
    let p : suc n - 1 ≡ n = omega arith in
    elim (cases_Bool (is_other m (get_or xs (suc n - 1) 0))) [
      | inl other ↦
          let more : suffix_len (is_other m) (take (suc n) xs) ≡ 1 + suffix_len (is_other m) (take n xs) = suffix_len-take_yes (is_other m) xs (suc n) 0 some le other ∙ ap (λ k. 1 + suffix_len (is_other m) (take k xs)) p in
          let less : suffix_len (is_other m) (take n xs) < n = omega arith in
          let place : suc n - suffix_len (is_other m) (take (suc n) xs) - 1 ≡ n - suffix_len (is_other m) (take n xs) - 1 = omega arith in
          ap (λ k. get_or xs k 0) place ∙ mark_of_front m xs n (omega arith) less
      | inr mark ↦
          let none : suffix_len (is_other m) (take (suc n) xs) ≡ 0 = suffix_len-take_no (is_other m) xs (suc n) 0 some le mark in
          let place : suc n - suffix_len (is_other m) (take (suc n) xs) - 1 ≡ suc n - 1 = omega arith in
          ap (λ k. get_or xs k 0) place ∙ eqb-true _ _ (not-false _ mark)
    ]

mark_before : (m : ℕ) (xs : List ℕ) → suffix_len (is_other m) xs < length xs → get_or xs (length xs - suffix_len (is_other m) xs - 1) 0 ≡ m
mark_before m xs lt =
    let all : take (length xs) xs ≡ xs = take_all _ _ (omega arith) in
    rw all at (mark_of_front m xs (length xs) (omega arith) (rw all lt))

-- a text may be cut after the last of some ASCII byte
pub behind_mark : (m : ℕ) (t : List ℕ) → m < 128 → IsUtf8 t → IsCharBoundary t (length t - suffix_len (is_other m) t)
behind_mark m t ascii u =
    elim (cases_lt (suffix_len (is_other m) t) (length t)) [
      | inl lt ↦
          let at : ℕ = length t - suffix_len (is_other m) t - 1 in
          let is : get_or t at 0 ≡ m = mark_before m t lt in
          let place : at + 1 ≡ length t - suffix_len (is_other m) t = omega arith in
          subst (IsCharBoundary t) place (IsCharBoundary-after_ascii t at u (omega arith) (omega arith))
      | inr ge ↦
          let place : 0 ≡ length t - suffix_len (is_other m) t = omega arith in
          subst (IsCharBoundary t) place (IsCharBoundary-start t u)
    ]

-- and before it
pub before_mark : (m : ℕ) (t : List ℕ) → m < 128 → suffix_len (is_other m) t < length t → IsCharBoundary t (length t - suffix_len (is_other m) t - 1)
before_mark m t ascii lt =
    let is : get_or t (length t - suffix_len (is_other m) t - 1) 0 ≡ m = mark_before m t lt in
    IsCharBoundary-before_ascii t (length t - suffix_len (is_other m) t - 1) (omega arith) (omega arith)
