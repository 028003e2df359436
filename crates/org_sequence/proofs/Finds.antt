-- Where an item stands in two lists side by side.
use Rattle.std.proofs.Common.{◌≡◌, ℕ, zero, suc, Bool, true, ◌+◌, ◌<◌, ◌≤◌, List, [], ◌∷◌, ◌++◌, length, take, drop, get_or, length-append, length-drop, Option, Some, None, arith, ap, sym, ◌∙◌, refl, subst, if◌then◌else◌}
use Rattle.std.specs.Prelude.{option_map}
use Rattle.std.specs.List.{sum_by, count_by, position_or_len}
use Rattle.std.proofs.lemmas.Bool.Decides.{nat_tests}
use Rattle.std.proofs.Math.Nat.{zero-add}
use Rattle.std.proofs.Math.Seq.{take-append-add, drop-append-add}
use Rattle.std.proofs.lemmas.List.{drop-drop, drop-append-le, get_or-append-add, take-append-drop, nil_from_length}
use Rattle.std.proofs.lemmas.List.Sums.{sum_by-append, sum_by-cons, sum_by-take-drop}
use Rattle.org_sequence.specs.Parts.{HoldsPlace, IsItemOf, IsFirstPassing}

-- how many of a list pass a test, by its first item
pub count_cons : {T : Type 0} (p : T → Bool) (x : T) (xs : List T) → count_by p (x ∷ xs) ≡ (if p x then 1 else 0) + count_by p xs
count_cons p x xs = sum_by-cons _ x xs

-- the first item that passes
pub position_at : {T : Type 0} (p : T → Bool) (xs : List T) (i : ℕ) (x : T) → i < length xs → x ≡ get_or xs i x → p x ≡ true → count_by p (take i xs) ≡ 0 → i ≡ position_or_len p xs
position_at p [] i x lt same passes none = absurd (omega arith)
position_at p (y ∷ ys) zero x lt same passes none = let e : p y ≡ true = ap p (sym same) ∙ passes in rw e refl
position_at p (y ∷ ys) (suc i) x lt same passes none =
    let c = count_cons p y (take i ys) in
    let r = position_at p ys i x (omega arith) same passes in
    grind (arith, nat_tests, c, r)

pub position_left : {T : Type 0} (p : T → Bool) (ls rs : List T) → position_or_len p ls < length ls → position_or_len p (ls ++ rs) ≡ position_or_len p ls
position_left p [] rs some = absurd (omega arith)
position_left p (x ∷ ls) rs some = grind (arith, nat_tests, position_left p ls rs)

pub position_right : {T : Type 0} (p : T → Bool) (ls rs : List T) → count_by p ls ≡ 0 → position_or_len p (ls ++ rs) ≡ length ls + position_or_len p rs
position_right p [] rs none = sym (zero-add (position_or_len p rs))
position_right p (x ∷ ls) rs none = let c = count_cons p x ls in grind (arith, nat_tests, c, position_right p ls rs)

-- from a place on: where none passes at all
pub first_none : {T : Type 0} (p : T → Bool) (xs : List T) (at : ℕ) → count_by p xs ≡ 0 → count_by p (drop at xs) ≡ 0
first_none p xs at none =
    let parts : count_by p (take at xs) + count_by p (drop at xs) ≡ count_by p xs = sum_by-take-drop _ xs at in
    omega (arith, parts)

-- on the left side
pub first_left : {T : Type 0} (p : T → Bool) (xs ls rs bs : List T) (at i : ℕ) → xs ≡ ls ++ rs → bs ≡ ls → at ≤ length ls → IsFirstPassing p bs at (Some i) → IsFirstPassing p xs at (Some i)
first_left p xs ls rs bs at i is b le first =
    let here : (i ≡ at + position_or_len p (drop at ls)) × (i < length ls) = subst (λ ys. (i ≡ at + position_or_len p (drop at ys)) × (i < length ys)) b first in
    let more : position_or_len p (drop at ls ++ rs) ≡ position_or_len p (drop at ls) = position_left p (drop at ls) rs (omega (arith, length-drop at ls, here.0, here.1)) in
    rw (is, drop-append-le at ls rs le) (omega (arith, more, here.0), omega (arith, here.1, length-append ls rs))

pub first_is_none : {T : Type 0} (p : T → Bool) (xs : List T) (at : ℕ) (o : Option ℕ) → IsFirstPassing p xs at o → ((i : ℕ) → o ≡ Some i → ⊥) → count_by p (drop at xs) ≡ 0
first_is_none p xs at None first none = first
first_is_none p xs at (Some i) first none = absurd (none i refl)

-- from a place of the right side on
pub first_beyond : {T : Type 0} (p : T → Bool) (xs ls rs bs : List T) (at k n : ℕ) (o : Option ℕ) → xs ≡ ls ++ rs → bs ≡ rs → n ≡ length ls → at ≡ n + k → IsFirstPassing p bs k o → IsFirstPassing p xs at (option_map (λ i. n + i) o)
first_beyond p xs ls rs bs at k n None is b len e first = rw (is, e, len, drop-append-add ls rs k) (subst (λ ys. count_by p (drop k ys) ≡ 0) b first)
first_beyond p xs ls rs bs at k n (Some i) is b len e first =
    let here : (i ≡ k + position_or_len p (drop k rs)) × (i < length rs) = subst (λ ys. (i ≡ k + position_or_len p (drop k ys)) × (i < length ys)) b first in
    rw (is, e, len, drop-append-add ls rs k) (omega (arith, here.0), omega (arith, here.1, length-append ls rs))

-- on the right side, where none passes on the left
pub first_after : {T : Type 0} (p : T → Bool) (xs ls rs vs bs : List T) (at n : ℕ) (o : Option ℕ) → xs ≡ ls ++ rs → vs ≡ ls → bs ≡ rs → n ≡ length ls → at ≤ n → count_by p (drop at vs) ≡ 0 → IsFirstPassing p bs 0 o → IsFirstPassing p xs at (option_map (λ i. n + i) o)
first_after p xs ls rs vs bs at n None is a b len le none first =
    let before : count_by p (drop at ls) ≡ 0 = subst (λ ys. count_by p (drop at ys) ≡ 0) a none in
    let behind : count_by p rs ≡ 0 = subst (λ ys. count_by p ys ≡ 0) b first in
    let both : count_by p (drop at ls ++ rs) ≡ count_by p (drop at ls) + count_by p rs = sum_by-append _ (drop at ls) rs in
    rw (is, drop-append-le at ls rs (omega arith)) (omega (arith, before, behind, both))
first_after p xs ls rs vs bs at n (Some i) is a b len le none first =
    let before : count_by p (drop at ls) ≡ 0 = subst (λ ys. count_by p (drop at ys) ≡ 0) a none in
    let here : (i ≡ 0 + position_or_len p rs) × (i < length rs) = subst (λ ys. (i ≡ 0 + position_or_len p ys) × (i < length ys)) b first in
    rw (is, drop-append-le at ls rs (omega arith)) (omega (arith, here.0, position_right p (drop at ls) rs before, length-drop at ls), omega (arith, here.1, length-append ls rs))

-- the item that holds a place of the right side
pub item_right : {T : Type 0} (f : T → ℕ) (xs ls rs bs : List T) (place k i before n s : ℕ) → xs ≡ ls ++ rs → bs ≡ rs → n ≡ length ls → s ≡ sum_by f ls → place ≡ s + k → IsItemOf f bs k i before → IsItemOf f xs place (n + i) (s + before)
item_right f xs ls rs bs place k i before n s is b at size split item =
    let t : (j : ℕ) → sum_by f (take (n + j) xs) ≡ s + sum_by f (take j bs) =
    λ j. rw (is, b, at, size, take-append-add ls rs j) (sum_by-append f ls (take j rs)) in
    let next : n + i + 1 ≡ n + (i + 1) = omega arith in
    record {
      within = omega (arith, ap length is, ap length b, length-append ls rs, item.within);
      before_is = omega (arith, t i, item.before_is);
      begun = omega (arith, item.begun);
      ended = rw next (omega (arith, t (i + 1), item.ended));
    }

-- the item that holds a place of the right side, wherever it stands
pub holds_right : {T : Type 0} (f : T → ℕ) (xs ls rs bs : List T) (place k before s : ℕ) (x : T) → xs ≡ ls ++ rs → bs ≡ rs → s ≡ sum_by f ls → place ≡ s + k → HoldsPlace f bs k x before → HoldsPlace f xs place x (s + before)
holds_right f xs ls rs bs place k before s x is b size split h = record {
  index = length ls + h.index;
  holds = item_right f xs ls rs bs place k h.index before (length ls) s is b refl size split h.holds;
  item_is = h.item_is ∙ rw (is, b) (sym (get_or-append-add ls rs h.index x));
}

-- the items from a place of the right side on
pub run_right : {T : Type 0} (xs ls rs bs ys : List T) (at k n : ℕ) → xs ≡ ls ++ rs → bs ≡ rs → at ≡ length ls + k → ys ≡ take n (drop k bs) → ys ≡ take n (drop at xs)
run_right xs ls rs bs ys at k n is b e run = run ∙ rw (is, b, e, drop-append-add ls rs k) refl

-- a run, and what follows it
pub run_joined : {T : Type 0} (xs ys : List T) (at : ℕ) → ys ≡ take (length ys) (drop at xs) → drop at xs ≡ ys ++ drop (at + length ys) xs
run_joined xs ys at run =
    let e : ys ++ drop (at + length ys) xs ≡ take (length ys) (drop at xs) ++ drop (length ys) (drop at xs) =
    ap (λ zs. zs ++ drop (at + length ys) xs) run ∙ ap (λ zs. take (length ys) (drop at xs) ++ zs) (sym (drop-drop (length ys) at xs)) in
    sym (e ∙ take-append-drop (length ys) (drop at xs))

-- what is left where the next run is taken, and its first item given
pub refilled : {T : Type 0} (v run xs ys rs : List T) (x : T) (at : ℕ) → run ++ drop at xs ≡ v → length run ≡ 0 → ys ≡ take (length ys) (drop at xs) → ys ≡ x ∷ rs → v ≡ x ∷ (rs ++ drop (at + length ys) xs)
refilled v run xs ys rs x at view none taken first =
    let e : run ≡ [] = nil_from_length run none in
    sym view ∙ (ap (λ zs. zs ++ drop at xs) e ∙ (run_joined xs ys at taken ∙ ap (λ zs. zs ++ drop (at + length ys) xs) first))
