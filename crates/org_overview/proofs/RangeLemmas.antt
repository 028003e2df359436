-- Lists that are made number by number.
use Rattle.std.proofs.Common.{◌≡◌, ◌∙◌, ◌+◌, ◌-◌, ◌*◌, ◌/◌, ◌<◌, ◌≤◌, ℕ, zero, suc, List, [], ◌∷◌, ◌++◌, map, ap, ap₂, arith, refl, sym, append-nil}
use Rattle.std.specs.Prelude.{min}
use Rattle.std.specs.List.{flat_map, range_with_len}
use Rattle.std.proofs.lemmas.Grind.{flat_map-append}
use Rattle.std.proofs.lemmas.List.{map-append}
use Rattle.std.proofs.lemmas.List.FromFn.{map-range_with_len_more}

-- one item more
pub one_more : {X Y : Type 0} (g : X → Y) (f : ℕ → Y) (old new : List X) (x : X) (a n j : ℕ) → a + n ≡ j →
    map g old ≡ map f (range_with_len a n) → g x ≡ f j → new ≡ old ++ x ∷ [] → map g new ≡ map f (range_with_len a (n + 1))
one_more {Y = Y} g f old new x a n j at so one grown =
    ap (map g) grown ∙ map-append g old (x ∷ []) ∙ ap₂ (λ (ys : List Y) (y : Y). ys ++ y ∷ []) so one ∙ sym (map-range_with_len_more f a n j at)

-- one number more
pub number_more : {Y : Type 0} (f : ℕ → Y) (old new : List Y) (y : Y) (a n j : ℕ) → a + n ≡ j →
    old ≡ map f (range_with_len a n) → y ≡ f j → new ≡ old ++ y ∷ [] → new ≡ map f (range_with_len a (n + 1))
number_more {Y = Y} f old new y a n j at so one grown =
    grown ∙ ap₂ (λ (ys : List Y) (z : Y). ys ++ z ∷ []) so one ∙ sym (map-range_with_len_more f a n j at)

range_join : (a n m : ℕ) → range_with_len a (n + m) ≡ range_with_len a n ++ range_with_len (a + n) m
range_join a zero m =
    let e : zero + m ≡ m = omega arith in
    let f : a ≡ a + zero = omega arith in
    ap (range_with_len a) e ∙ ap (λ k. range_with_len k m) f
range_join a (suc n) m =
    let s : suc n + m ≡ suc (n + m) = omega arith in
    let e : a + 1 + n ≡ a + suc n = omega arith in
    ap (range_with_len a) s ∙ ap (λ ds. a ∷ ds) (range_join (a + 1) n m ∙ ap (λ k. range_with_len (a + 1) n ++ range_with_len k m) e)

-- some items more
pub some_more : {X Y : Type 0} (g : X → List Y) (f : ℕ → Y) (old new : List X) (x : X) (n m k : ℕ) → n + m ≡ k →
    flat_map g old ≡ map f (range_with_len 0 n) → g x ≡ map f (range_with_len n m) → new ≡ old ++ x ∷ [] → flat_map g new ≡ map f (range_with_len 0 k)
some_more {Y = Y} g f old new x n m k at so one grown =
    let from : 0 + n ≡ n = omega arith in
    ap (flat_map g) grown ∙ flat_map-append g old (x ∷ []) ∙ ap₂ (λ (a b : List Y). a ++ b) so (append-nil (g x) ∙ one)
    ∙ ap (λ j. map f (range_with_len 0 n) ++ map f (range_with_len j m)) (sym from)
    ∙ sym (map-append f (range_with_len 0 n) (range_with_len (0 + n) m)) ∙ ap (map f) (sym (range_join 0 n m)) ∙ ap (λ j. map f (range_with_len 0 j)) at

-- numbers counted from another one on
pub shifted : {Y : Type 0} (f : ℕ → Y) (first k n j : ℕ) → first + k ≡ j → map (λ i. f (first + i)) (range_with_len k n) ≡ map f (range_with_len j n)
shifted f first k zero j at = refl
shifted {Y = Y} f first k (suc n) j at =
    ap₂ (λ (y : Y) (ys : List Y). y ∷ ys) (ap f at) (shifted f first (k + 1) n (j + 1) (omega (arith, at)))

-- whole weeks before the last day, and one week more

pub week_within : (to from first last week : ℕ) → to ≡ last → from ≡ first → week < (to + 1 - from + 6) / 7 → 7 * week ≤ last + 1 - first
week_within to from first last week a b lt = omega (arith, a, b, lt)

pub weeks_before : (week count : ℕ) → 7 * week ≤ count → min (7 * week) count ≡ 7 * week
weeks_before week count le = omega (arith, le)

pub weeks_behind : (week count : ℕ) → 7 * week ≤ count → 7 * week + min 7 (count - 7 * week) ≡ min (7 * (week + 1)) count
weeks_behind week count le = omega (arith, le)
