-- The clocks of a file's headings, one by one.
use Rattle.std.proofs.Common.{◌≡◌, ◌∙◌, ℕ, zero, suc, ◌+◌, ◌<◌, ◌≤◌, ◌^◌, Bool, true, false, ◌&&◌, if◌then◌else◌, is_some, List, [], ◌∷◌, ◌++◌, length, drop, get_or, refl, sym, ap, arith}
use Rattle.std.specs.Prelude.{nat_lt}
use Rattle.std.proofs.lemmas.List.Sums.{sum_by-cons}
use Rattle.org_drawer.specs.Clock.{minutes_in}
use Rattle.org_drawer.specs.declared.clock.ClockLine.{ClockLine}
use Rattle.org_entry.specs.declared.entry.Entry.{Entry}
use Rattle.org_outline.specs.Levels.{level_of}
use Rattle.org_sum.specs.Measures.{clock_minutes}
use Rattle.org_sum.specs.Measures as measures
use Rattle.org_sum.specs.Sums.{own, own_at, sum_below, total}
use Rattle.org_sum.specs.Texts.{AreOfText}
use Rattle.org_clocktable.specs.Counted.{clocks_at, clocks_from, placed}
use Rattle.org_clocktable.specs.RunningSums.{AreInOrder, minutes_before, minutes_of}
use Rattle.org_clocktable.specs.declared.running_sums.PlacedClock.{PlacedClock}
use Rattle.org_clocktable.proofs.RunningSumLemmas.{before_none, lt_true}

placed_in_order : (i : ℕ) (clocks : List ClockLine) (rest : List PlacedClock) → AreInOrder i rest → AreInOrder i (placed i clocks ++ rest)
placed_in_order i [] rest order = order
placed_in_order i (c ∷ cs) rest order = (omega arith, placed_in_order i cs rest order)

sooner : (a b : ℕ) (cs : List PlacedClock) → a ≤ b → AreInOrder b cs → AreInOrder a cs
sooner a b [] le order = tt
sooner a b (c ∷ cs) le order = (omega (arith, le, order.0), order.1)

at_in_order : (t : Bool) (i : ℕ) (clocks : List ClockLine) (rest : List PlacedClock) → AreInOrder i rest → AreInOrder i ((if t then placed i clocks else []) ++ rest)
at_in_order true i clocks rest order = placed_in_order i clocks rest order
at_in_order false i clocks rest order = order

pub clocks_in_order : (i : ℕ) (es : List Entry) (cs : List Bool) → AreInOrder i (clocks_from i es cs)
clocks_in_order i [] cs = tt
clocks_in_order i (e ∷ es) [] = tt
clocks_in_order i (e ∷ es) (c ∷ cs) =
    at_in_order (is_some (level_of e) && c) i e.details.clocks (clocks_from (i + 1) es cs) (sooner i (i + 1) (clocks_from (i + 1) es cs) (omega arith) (clocks_in_order (i + 1) es cs))

-- what they have before a place after theirs
placed_before : (days : ℕ × ℕ) (i x : ℕ) (clocks : List ClockLine) (rest : List PlacedClock) → i < x →
    minutes_before days (placed i clocks ++ rest) x ≡ measures.minutes_of days clocks + minutes_before days rest x
placed_before days i x [] rest lt = omega arith
placed_before days i x (c ∷ cs) rest lt =
    let here : (if nat_lt i x then minutes_in c days else 0) ≡ minutes_in c days = ap (λ t. if t then minutes_in c days else 0) (lt_true i x lt) in
    omega (arith, here, placed_before days i x cs rest lt, sum_by-cons (λ (d : ClockLine). minutes_in d days) c cs)

at_before : (days : ℕ × ℕ) (t : Bool) (i x : ℕ) (e : Entry) (rest : List PlacedClock) → i < x →
    minutes_before days ((if t then placed i e.details.clocks else []) ++ rest) x ≡ (if t then clock_minutes days e else 0) + minutes_before days rest x
unfolding clock_minutes
at_before days true i x e rest lt = placed_before days i x e.details.clocks rest lt
at_before days false i x e rest lt = omega arith

sum_first : (f : ℕ → ℕ) (n : ℕ) → sum_below f (suc n) ≡ f 0 + sum_below (λ j. f (suc j)) n
sum_first f zero = omega arith
sum_first f (suc n) = omega (arith, sum_first f n)

sum_none : (n : ℕ) → sum_below (λ j. 0) n ≡ 0
sum_none zero = refl
sum_none (suc n) = omega (arith, sum_none n)

-- the sum up to a place is that of the headings before it
pub before_from : (days : ℕ × ℕ) (i : ℕ) (es : List Entry) (cs : List Bool) (n x : ℕ) → x ≡ i + n →
    minutes_before days (clocks_from i es cs) x ≡ sum_below (own_at (clock_minutes days) es cs) n
before_from days i [] cs n x is = sym (sum_none n)
before_from days i (e ∷ es) [] n x is = sym (sum_none n)
before_from days i (e ∷ es) (c ∷ cs) zero x is =
    before_none days i (clocks_from i (e ∷ es) (c ∷ cs)) x (clocks_in_order i (e ∷ es) (c ∷ cs)) (omega (arith, is))
before_from days i (e ∷ es) (c ∷ cs) (suc n) x is =
    at_before days (is_some (level_of e) && c) i x e (clocks_from (i + 1) es cs) (omega (arith, is))
    ∙ ap (λ m. own (clock_minutes days) e c + m) (before_from days (i + 1) es cs n x (omega (arith, is)))
    ∙ sym (sum_first (own_at (clock_minutes days) (e ∷ es) (c ∷ cs)) n)

-- that of all clocks is the sum up to the end
placed_of : (days : ℕ × ℕ) (i : ℕ) (clocks : List ClockLine) (rest : List PlacedClock) →
    minutes_of days (placed i clocks ++ rest) ≡ measures.minutes_of days clocks + minutes_of days rest
placed_of days i [] rest = omega arith
placed_of days i (c ∷ cs) rest = omega (arith, placed_of days i cs rest, sum_by-cons (λ (d : ClockLine). minutes_in d days) c cs)

at_of : (days : ℕ × ℕ) (t : Bool) (i : ℕ) (e : Entry) (rest : List PlacedClock) →
    minutes_of days ((if t then placed i e.details.clocks else []) ++ rest) ≤ clock_minutes days e + minutes_of days rest
unfolding clock_minutes
at_of days true i e rest = omega (arith, placed_of days i e.details.clocks rest)
at_of days false i e rest = omega arith

all_of : (days : ℕ × ℕ) (i : ℕ) (es : List Entry) (cs : List Bool) → minutes_of days (clocks_from i es cs) ≤ total (clock_minutes days) es
all_of days i [] cs = omega arith
all_of days i (e ∷ es) [] = omega arith
all_of days i (e ∷ es) (c ∷ cs) =
    omega (arith, at_of days (is_some (level_of e) && c) i e (clocks_from (i + 1) es cs), all_of days (i + 1) es cs)

-- they are small: a text has few minutes
pub small_of : (first last : ℕ) (es : List Entry) (cs : List Bool) → AreOfText es → total (clock_minutes (first, last)) es < 2 ^ 55 →
    minutes_of (first, last) (clocks_from 0 es cs) < 2 ^ 63
small_of first last es cs of small = omega (arith, all_of (first, last) 0 es cs, small)

-- one entry more
pub clocks_more : (i : ℕ) (es : List Entry) (cs : List Bool) (e : Entry) (k : ℕ) → k < length es → length cs ≡ length es → e ≡ get_or es k e →
    clocks_from (i + k) (drop k es) (drop k cs) ≡ clocks_at (i + k) (get_or cs k false) e ++ clocks_from (i + (k + 1)) (drop (k + 1) es) (drop (k + 1) cs)
clocks_more i [] cs e k lt same is = absurd (omega (arith, lt))
clocks_more i (x ∷ xs) [] e k lt same is = absurd (omega (arith, same))
clocks_more i (x ∷ xs) (c ∷ cs) e zero lt same is =
    let next : i + zero + 1 ≡ i + (zero + 1) = omega arith in
    (λ j. clocks_at (i + zero) c (sym is j) ++ clocks_from (next j) xs cs)
clocks_more i (x ∷ xs) (c ∷ cs) e (suc k) lt same is =
    let a : i + suc k ≡ (i + 1) + k = omega arith in
    let b : (i + 1) + (k + 1) ≡ i + (suc k + 1) = omega arith in
    let d : suc (k + 1) ≡ suc k + 1 = omega arith in
    (λ j. clocks_from (a j) (drop k xs) (drop k cs))
    ∙ clocks_more (i + 1) xs cs e k (omega (arith, lt)) (omega (arith, same)) is
    ∙ (λ j. clocks_at (sym a j) (get_or cs k false) e ++ clocks_from (b j) (drop (d j) (x ∷ xs)) (drop (d j) (c ∷ cs)))
