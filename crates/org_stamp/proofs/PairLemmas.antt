-- The pairs of a planning line, step by step.
use Rattle.std.proofs.Common.{◌≡◌, ℕ, zero, suc, ◌+◌, ◌-◌, ◌<◌, ◌≤◌, Bool, true, false, cond, List, [], ◌∷◌, length, drop, get_or, refl, sym, ◌∙◌, ap, arith, subst}
use Rattle.std.proofs.Math.Seq.{drop-cons}
use Rattle.std.specs.Prelude.{Some, None, Option, IfSome, MatchOption}
use Rattle.std.specs.List.{prefix_len}
use Rattle.std.proofs.lemmas.List.{drop-drop}
use Rattle.org_stamp.specs.declared.pair.Pair.{Pair}
use Rattle.org_stamp.specs.Pair.{pair_at, pairs_from}
use Rattle.org_stamp.proofs.PairWords.{pair_and}
use Rattle.org_base.specs.Words.{is_space}

pub skip : (bs : List ℕ) (at k : ℕ) → pairs_from bs at k ≡ pairs_from (drop k bs) (at + k) 0
unfolding pairs_from
skip bs at zero = ap (λ a. pairs_from bs a 0) (let e : at ≡ at + 0 = omega arith in e)
skip [] at (suc k) = refl
skip (b ∷ bs) at (suc k) = skip bs (at + 1) k ∙ ap (λ a. pairs_from (drop k bs) a 0) (let e : at + 1 + k ≡ at + suc k = omega arith in e)

pub step : (b : ℕ) (bs : List ℕ) (at : ℕ) → pairs_from (b ∷ bs) at 0 ≡ cond (is_space b) (pairs_from bs (at + 1) 0) (pair_and at (pairs_from bs (at + 1)) (pair_at at (b ∷ bs)))
unfolding pairs_from
step b bs at = refl

pub none_of : (at : ℕ) → pairs_from [] at 0 ≡ []
unfolding pairs_from
none_of at = refl

-- white space between pairs is passed over
pub past_gap : (bs : List ℕ) (at : ℕ) → pairs_from bs at 0 ≡ pairs_from (drop (prefix_len is_space bs) bs) (at + prefix_len is_space bs) 0
past_gap [] at = ap (λ a. pairs_from [] a 0) (let e : at ≡ at + 0 = omega arith in e)
past_gap (b ∷ bs) at = by (past_gap bs (at + 1)) (is_space b) refl
  where
    Goal : Bool → Type 0
    Goal t = pairs_from (b ∷ bs) at 0 ≡ pairs_from (drop (cond t (1 + prefix_len is_space bs) 0) (b ∷ bs)) (at + cond t (1 + prefix_len is_space bs) 0) 0

    by : pairs_from bs (at + 1) 0 ≡ pairs_from (drop (prefix_len is_space bs) bs) (at + 1 + prefix_len is_space bs) 0 → (t : Bool) → is_space b ≡ t → Goal (is_space b)
    by again true e =
        let n = prefix_len is_space bs in
        let one : pairs_from (b ∷ bs) at 0 ≡ pairs_from bs (at + 1) 0 = step b bs at ∙ (rw e refl) in
        let there : drop n bs ≡ drop (1 + n) (b ∷ bs) = (let k : 1 + n ≡ suc n = omega arith in rw k refl) in
        let place : at + 1 + n ≡ at + (1 + n) = omega arith in
        subst Goal (sym e) (one ∙ (again ∙ (ap (λ r. pairs_from r (at + 1 + n) 0) there ∙ ap (λ a. pairs_from (drop (1 + n) (b ∷ bs)) a 0) place)))
    by again false e = subst Goal (sym e) (ap (λ a. pairs_from (b ∷ bs) a 0) (let k : at ≡ at + 0 = omega arith in k))

-- what is no white space at the front
abbrev pub NoSpace : List ℕ → Type 0
NoSpace [] = Unit {0}
NoSpace (b ∷ bs) = is_space b ≡ false

pub no_space : (bs : List ℕ) → NoSpace (drop (prefix_len is_space bs) bs)
no_space [] = tt
no_space (b ∷ bs) = by (no_space bs) (is_space b) refl
  where
    Goal : Bool → Type 0
    Goal t = NoSpace (drop (cond t (1 + prefix_len is_space bs) 0) (b ∷ bs))

    by : NoSpace (drop (prefix_len is_space bs) bs) → (t : Bool) → is_space b ≡ t → Goal (is_space b)
    by again true e = subst Goal (sym e) (let k : suc (prefix_len is_space bs) ≡ 1 + prefix_len is_space bs = omega arith in subst (λ n. NoSpace (drop n (b ∷ bs))) k again)
    by again false e = subst Goal (sym e) e

-- where no pair stands, there are none
pub none_here : (bs : List ℕ) (at : ℕ) → NoSpace bs → pair_at at bs ≡ None → pairs_from bs at 0 ≡ []
none_here [] at n h = none_of at
none_here (b ∷ bs) at n h = step b bs at ∙ (ap (λ t. cond t (pairs_from bs (at + 1) 0) (pair_and at (pairs_from bs (at + 1)) (pair_at at (b ∷ bs)))) n ∙ ap (pair_and at (pairs_from bs (at + 1))) h)

-- where one stands, it comes first, and then those after it
pub some_here : (line : List ℕ) (at : ℕ) (p : Pair) → NoSpace (drop at line) → at < p.end → p.end ≤ length line → pair_at at (drop at line) ≡ Some p →
    pairs_from (drop at line) at 0 ≡ p ∷ pairs_from (drop p.end line) p.end 0
some_here line at p n lt le h =
    let cut = drop-cons line at 0 (omega arith) in
    let b = get_or line at 0 in
    let bs = drop (suc at) line in
    let inside = p.end - (at + 1) in
    let open_ : is_space b ≡ false = subst NoSpace cut n in
    let there : drop inside bs ≡ drop p.end line =
    drop-drop inside (suc at) line ∙ ap (λ k. drop k line) (let e : suc at + inside ≡ p.end = omega arith in e) in
    let place : at + 1 + inside ≡ p.end = omega arith in
    ap (λ r. pairs_from r at 0) cut
    ∙ (step b bs at
    ∙ (ap (λ t. cond t (pairs_from bs (at + 1) 0) (pair_and at (pairs_from bs (at + 1)) (pair_at at (b ∷ bs)))) open_
    ∙ (ap (pair_and at (pairs_from bs (at + 1))) (sym (ap (pair_at at) cut) ∙ h)
    ∙ ap (λ ps. p ∷ ps)
    (skip bs (at + 1) inside
    ∙ (ap (λ r. pairs_from r (at + 1 + inside) 0) there ∙ ap (λ a. pairs_from (drop p.end line) a 0) place)))))

-- the next pair after white space, and those after it
pub next_found : (line : List ℕ) (at n : ℕ) (r : Option Pair) → n ≡ prefix_len is_space (drop at line) →
    r ≡ pair_at (at + n) (drop (at + n) line) → IfSome r (λ p. (at + n < p.end) × (p.end ≤ length line) × (p.at + p.len ≤ length line)) →
    MatchOption r (pairs_from (drop at line) at 0 ≡ []) (λ p. pairs_from (drop at line) at 0 ≡ p ∷ pairs_from (drop p.end line) p.end 0)
next_found line at n r count found bound = by r found bound
  where
    there : drop (prefix_len is_space (drop at line)) (drop at line) ≡ drop (at + n) line
    there = ap (λ k. drop k (drop at line)) (sym count) ∙ drop-drop n at line

    none_before : NoSpace (drop (at + n) line)
    none_before = subst NoSpace there (no_space (drop at line))

    past : pairs_from (drop at line) at 0 ≡ pairs_from (drop (at + n) line) (at + n) 0
    past = past_gap (drop at line) at ∙ (ap (λ k. pairs_from (drop (prefix_len is_space (drop at line)) (drop at line)) (at + k) 0) (sym count) ∙ ap (λ bs. pairs_from bs (at + n) 0) there)

    by : (o : Option Pair) → o ≡ pair_at (at + n) (drop (at + n) line) → IfSome o (λ p. (at + n < p.end) × (p.end ≤ length line) × (p.at + p.len ≤ length line)) →
        MatchOption o (pairs_from (drop at line) at 0 ≡ []) (λ p. pairs_from (drop at line) at 0 ≡ p ∷ pairs_from (drop p.end line) p.end 0)
    by None e b = past ∙ none_here (drop (at + n) line) (at + n) none_before (sym e)
    by (Some p) e b = past ∙ some_here line (at + n) p none_before b.0 b.1 (sym e)
