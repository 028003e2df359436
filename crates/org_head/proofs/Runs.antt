-- The longest front and the longest end of a list whose elements pass a test.
use Rattle.std.proofs.Common.{◌≡◌, ℕ, ◌+◌, ◌-◌, Bool, cond, true, not, inl, inr, List, [], ◌∷◌, ◌++◌, length, take, drop, reverse, refl, sym, ap, ◌∙◌, subst, arith, length-append}
use Rattle.std.proofs.lemmas.Bool.{cases_Bool, cases_lt, and_parts, and_from}
use Rattle.std.proofs.lemmas.List.{take-append-drop, drop_all, reverse-append, reverse-reverse, length-reverse}
use Rattle.std.proofs.lemmas.List.Sums.{prefix_len_stops, prefix_len-drop_no}
use Rattle.std.proofs.lemmas.List.Folds.{list_all-append}
use Rattle.std.proofs.Math.Numerals.{one-add}
use Rattle.std.proofs.Math.Seq.{take-append_seam, drop-append_seam}
use Rattle.std.specs.List.{list_all, prefix_len, suffix_len}

pub passes_front : {X : Type 0} (p : X → Bool) (xs : List X) → list_all p (take (prefix_len p xs) xs) ≡ true
passes_front p [] = refl
passes_front p (x ∷ xs) = elim (cases_Bool (p x)) [
  | inl e ↦ rw (e, one-add, e) (passes_front p xs)
  | inr e ↦ rw e refl
]

pub fails_behind : (p : ℕ → Bool) (xs : List ℕ) → prefix_len p (drop (prefix_len p xs) xs) ≡ 0
fails_behind p xs =
    let n = prefix_len p xs in
    elim (cases_lt n (length xs)) [
      | inl within ↦ prefix_len-drop_no p xs n 0 within (prefix_len_stops p xs 0 within)
      | inr past ↦ ap (prefix_len p) (drop_all n xs past)
    ]

-- a front that passes, before what doesn't begin so, is as long as it is
pub prefix_is : (p : ℕ → Bool) (xs ys : List ℕ) → list_all p xs ≡ true → prefix_len p ys ≡ 0 → prefix_len p (xs ++ ys) ≡ length xs
prefix_is p [] ys h k = k
prefix_is p (x ∷ xs) ys h k = let both = and_parts (p x) (list_all p xs) h in rw (both.0, one-add, prefix_is p xs ys both.1 k) refl

pub all-reverse : {X : Type 0} (p : X → Bool) (xs : List X) → list_all p xs ≡ true → list_all p (reverse xs) ≡ true
all-reverse p [] h = refl
all-reverse p (x ∷ xs) h =
    let both = and_parts (p x) (list_all p xs) h in
    ap (list_all p) (reverse-append (x ∷ []) xs) ∙ list_all-append p (reverse xs) (x ∷ []) ∙ and_from (list_all p (reverse xs)) (list_all p (x ∷ [])) (all-reverse p xs both.1) (and_from (p x) true both.0 refl)

-- an end that passes, after what doesn't end so, is as long as it is
pub suffix_is : (p : ℕ → Bool) (xs ys : List ℕ) → suffix_len p xs ≡ 0 → list_all p ys ≡ true → suffix_len p (xs ++ ys) ≡ length ys
suffix_is p xs ys h k = ap (prefix_len p) (reverse-append xs ys) ∙ prefix_is p (reverse ys) (reverse xs) (all-reverse p ys k) h ∙ length-reverse ys

pub front_is : (p : ℕ → Bool) (xs ys : List ℕ) → suffix_len p xs ≡ 0 → list_all p ys ≡ true → take (length (xs ++ ys) - suffix_len p (xs ++ ys)) (xs ++ ys) ≡ xs
front_is p xs ys h k =
    let count = suffix_is p xs ys h k in
    let sum = length-append xs ys in
    let n : length (xs ++ ys) - suffix_len p (xs ++ ys) ≡ length xs = omega (arith, count, sum) in
    ap (λ m. take m (xs ++ ys)) n ∙ take-append_seam xs ys

pub end_is : (p : ℕ → Bool) (xs ys : List ℕ) → suffix_len p xs ≡ 0 → list_all p ys ≡ true → drop (length (xs ++ ys) - suffix_len p (xs ++ ys)) (xs ++ ys) ≡ ys
end_is p xs ys h k =
    let count = suffix_is p xs ys h k in
    let sum = length-append xs ys in
    let n : length (xs ++ ys) - suffix_len p (xs ++ ys) ≡ length xs = omega (arith, count, sum) in
    ap (λ m. drop m (xs ++ ys)) n ∙ drop-append_seam xs ys

-- a list cut before its longest end that passes
pub record EndRun (p : ℕ → Bool) (xs front end : List ℕ) : Type 0 where
  pub joined : xs ≡ front ++ end
  pub passes : list_all p end ≡ true
  pub fails : suffix_len p front ≡ 0

reversed_run : (p : ℕ → Bool) (xs : List ℕ) → let ys = reverse xs in let n = prefix_len p ys in EndRun p xs (reverse (drop n ys)) (reverse (take n ys))
reversed_run p xs =
    let ys = reverse xs in
    let n = prefix_len p ys in
    record {
      joined = sym (reverse-reverse xs) ∙ ap reverse (sym (take-append-drop n ys)) ∙ reverse-append (take n ys) (drop n ys);
      passes = all-reverse p (take n ys) (passes_front p ys);
      fails = ap (prefix_len p) (reverse-reverse (drop n ys)) ∙ fails_behind p ys;
    }

pub run_front : (p : ℕ → Bool) (xs front end : List ℕ) → EndRun p xs front end → take (length xs - suffix_len p xs) xs ≡ front
run_front p xs front end r = ap (λ l. take (length l - suffix_len p l) l) r.joined ∙ front_is p front end r.fails r.passes

pub run_end : (p : ℕ → Bool) (xs front end : List ℕ) → EndRun p xs front end → drop (length xs - suffix_len p xs) xs ≡ end
run_end p xs front end r = ap (λ l. drop (length l - suffix_len p l) l) r.joined ∙ end_is p front end r.fails r.passes

-- cut by its count
pub end_run : (p : ℕ → Bool) (xs : List ℕ) → let n = length xs - suffix_len p xs in EndRun p xs (take n xs) (drop n xs)
end_run p xs =
    let r = reversed_run p xs in
    let n = length xs - suffix_len p xs in
    record {
      joined = sym (take-append-drop n xs);
      passes = ap (list_all p) (run_end p xs _ _ r) ∙ r.passes;
      fails = ap (suffix_len p) (run_front p xs _ _ r) ∙ r.fails;
    }

-- what ends neither in one that passes nor in one that doesn't is empty
pub begins_neither : (p : ℕ → Bool) (xs : List ℕ) → prefix_len p xs ≡ 0 → prefix_len (λ x. not (p x)) xs ≡ 0 → xs ≡ []
begins_neither p [] h k = refl
begins_neither p (x ∷ xs) h k = elim (cases_Bool (p x)) [
  | inl e ↦ let more : 1 + prefix_len p xs ≡ 0 = subst (λ b. cond b (1 + prefix_len p xs) 0 ≡ 0) e h in absurd (omega (arith, more))
  | inr e ↦ let more : 1 + prefix_len (λ x. not (p x)) xs ≡ 0 = subst (λ b. cond (not b) (1 + prefix_len (λ x. not (p x)) xs) 0 ≡ 0) e k in absurd (omega (arith, more))
]

pub ends_neither : (p : ℕ → Bool) (xs : List ℕ) → suffix_len p xs ≡ 0 → suffix_len (λ x. not (p x)) xs ≡ 0 → xs ≡ []
ends_neither p xs h k = sym (reverse-reverse xs) ∙ ap reverse (begins_neither p (reverse xs) h k)
