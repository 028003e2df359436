-- Marks over clocks in order.
use Rattle.std.proofs.Common.{◌≡◌, ◌∙◌, ◌⊎◌, inl, inr, ℕ, zero, suc, ◌+◌, ◌<◌, ◌≤◌, Bool, true, false, if◌then◌else◌, List, [], ◌∷◌, ◌++◌, length, drop, get_or, refl, sym, ap, subst, arith, append-nil}
use Rattle.std.specs.Prelude.{nat_le, nat_lt}
use Rattle.std.specs.List.Sorted.{IsPartitionedBy}
use Rattle.std.proofs.lemmas.Bool.Decides.{nat_tests}
use Rattle.std.proofs.lemmas.List.{drop_all}
use Rattle.org_drawer.specs.Clock.{minutes_in}
use Rattle.org_clocktable.specs.declared.running_sums.RunningSum.{RunningSum}
use Rattle.org_clocktable.specs.declared.running_sums.PlacedClock.{PlacedClock}
use Rattle.org_clocktable.specs.RunningSums.{AreBefore, AreInOrder, AreRising, AreSumsInOrder, minutes_before, minutes_of, sum_at}

pub split : (a b : ℕ) → (a < b) ⊎ (b ≤ a)
split a b = grind arith

pub lt_true : (a b : ℕ) → a < b → nat_lt a b ≡ true
lt_true a b h = grind (arith, nat_tests)

pub lt_false : (a b : ℕ) → b ≤ a → nat_lt a b ≡ false
lt_false a b h = grind (arith, nat_tests)

le_true : (a b : ℕ) → a ≤ b → nat_le a b ≡ true
le_true a b h = grind (arith, nat_tests)

le_false : (a b : ℕ) → b < a → nat_le a b ≡ false
le_false a b h = grind (arith, nat_tests)

pub lt_from : (a b : ℕ) → nat_lt a b ≡ true → a < b
lt_from a b h = grind (arith, nat_tests)

pub ge_from : (a b : ℕ) → nat_lt a b ≡ false → b ≤ a
ge_from a b h = grind (arith, nat_tests)

-- what a clock at a place adds to the sum before another
abbrev part : ℕ → ℕ → ℕ → ℕ
part p x m = if nat_lt p x then m else 0

part_in : (p x m : ℕ) → p < x → part p x m ≡ m
part_in p x m h = ap (λ t. if t then m else 0) (lt_true p x h)

part_out : (p x m : ℕ) → x ≤ p → part p x m ≡ 0
part_out p x m h = ap (λ t. if t then m else 0) (lt_false p x h)

part_none : (p x m : ℕ) → m ≤ 0 → part p x m ≡ 0
part_none p x m h = elim (split p x) [ inl l ↦ omega (arith, part_in p x m l, h) | inr r ↦ part_out p x m r ]

part_more : (p x m : ℕ) → part p x m ≤ part p (x + 1) m
part_more p x m = elim (split p x) [
  | inl l ↦ omega (arith, part_in p x m l, part_in p (x + 1) m (omega (arith, l)))
  | inr r ↦ omega (arith, part_out p x m r)
]

before_more : (days : ℕ × ℕ) (cs : List PlacedClock) (x : ℕ) → minutes_before days cs x ≤ minutes_before days cs (x + 1)
before_more days [] x = omega arith
before_more days (c ∷ cs) x = omega (arith, part_more c.place x (minutes_in c.clock days), before_more days cs x)

pub before_none : (days : ℕ × ℕ) (at : ℕ) (cs : List PlacedClock) (x : ℕ) → AreInOrder at cs → x ≤ at → minutes_before days cs x ≡ 0
before_none days at [] x order le = refl
before_none days at (c ∷ cs) x order le =
    omega (arith, part_out c.place x (minutes_in c.clock days) (omega (arith, le, order.0)), before_none days c.place cs x order.1 (omega (arith, le, order.0)))

-- the marks of clocks, from a sum on
abbrev mark_if : Bool → ℕ → ℕ → List RunningSum → List RunningSum
mark_if true place sum ms = record { place = place; before = sum } ∷ ms
mark_if false place sum ms = ms

abbrev pub marks_from : ℕ × ℕ → ℕ → List PlacedClock → List RunningSum
marks_from days sum [] = []
marks_from days sum (c ∷ cs) = mark_if (nat_lt 0 (minutes_in c.clock days)) c.place sum (marks_from days (sum + minutes_in c.clock days) cs)

pub marks_some : (days : ℕ × ℕ) (sum : ℕ) (c : PlacedClock) (cs : List PlacedClock) → 0 < minutes_in c.clock days →
    marks_from days sum (c ∷ cs) ≡ record { place = c.place; before = sum } ∷ marks_from days (sum + minutes_in c.clock days) cs
marks_some days sum c cs some =
    ap (λ t. mark_if t c.place sum (marks_from days (sum + minutes_in c.clock days) cs)) (lt_true 0 (minutes_in c.clock days) some)

pub marks_none : (days : ℕ × ℕ) (sum : ℕ) (c : PlacedClock) (cs : List PlacedClock) → minutes_in c.clock days ≤ 0 →
    marks_from days sum (c ∷ cs) ≡ marks_from days sum cs
marks_none days sum c cs none =
    let same : sum + minutes_in c.clock days ≡ sum = omega (arith, none) in
    ap (λ t. mark_if t c.place sum (marks_from days (sum + minutes_in c.clock days) cs)) (lt_false 0 (minutes_in c.clock days) none)
    ∙ ap (λ n. marks_from days n cs) same

-- the sums at them are those of the clocks
pub sums_are : (days : ℕ × ℕ) (at sum : ℕ) (cs : List PlacedClock) (x : ℕ) → AreInOrder at cs →
    sum_at (marks_from days sum cs) (sum + minutes_of days cs) x ≡ sum + minutes_before days cs x
sums_are days at sum [] x order = refl
sums_are days at sum (c ∷ cs) x order = elim (split 0 (minutes_in c.clock days)) [
  | inl some ↦ elim (split c.place x) [
    | inl past ↦
        let m = minutes_in c.clock days in
        let total : sum + (m + minutes_of days cs) ≡ (sum + m) + minutes_of days cs = omega arith in
        ap (λ ms. sum_at ms (sum + (m + minutes_of days cs)) x) (marks_some days sum c cs some)
        ∙ ap (λ t. if t then sum else sum_at (marks_from days (sum + m) cs) (sum + (m + minutes_of days cs)) x) (le_false x c.place past)
        ∙ ap (λ n. sum_at (marks_from days (sum + m) cs) n x) total
        ∙ sums_are days c.place (sum + m) cs x order.1
        ∙ omega (arith, part_in c.place x m past)
    | inr before ↦
        let m = minutes_in c.clock days in
        ap (λ ms. sum_at ms (sum + (m + minutes_of days cs)) x) (marks_some days sum c cs some)
        ∙ ap (λ t. if t then sum else sum_at (marks_from days (sum + m) cs) (sum + (m + minutes_of days cs)) x) (le_true x c.place before)
        ∙ omega (arith, part_out c.place x m before, before_none days c.place cs x order.1 before)
  ]
  | inr none ↦
      let m = minutes_in c.clock days in
      let total : sum + (m + minutes_of days cs) ≡ sum + minutes_of days cs = omega (arith, none) in
      ap (λ ms. sum_at ms (sum + (m + minutes_of days cs)) x) (marks_none days sum c cs none)
      ∙ ap (λ n. sum_at (marks_from days sum cs) n x) total
      ∙ sums_are days c.place sum cs x order.1
      ∙ omega (arith, part_none c.place x m none)
]

earlier : (a b : ℕ) (ms : List RunningSum) → a ≤ b → AreSumsInOrder b ms → AreSumsInOrder a ms
earlier a b [] le order = tt
earlier a b (m ∷ ms) le order = (omega (arith, le, order.0), order.1)

order_if : (t : Bool) (at place sum : ℕ) (ms : List RunningSum) → at ≤ place → AreSumsInOrder place ms → AreSumsInOrder at (mark_if t place sum ms)
order_if true at place sum ms le order = (le, order)
order_if false at place sum ms le order = earlier at place ms le order

pub marks_in_order : (days : ℕ × ℕ) (at sum : ℕ) (cs : List PlacedClock) → AreInOrder at cs → AreSumsInOrder at (marks_from days sum cs)
marks_in_order days at sum [] order = tt
marks_in_order days at sum (c ∷ cs) order =
    order_if (nat_lt 0 (minutes_in c.clock days)) at c.place sum (marks_from days (sum + minutes_in c.clock days) cs) order.0
    (marks_in_order days c.place (sum + minutes_in c.clock days) cs order.1)

-- at each mark the sum rises
abbrev Rises : ℕ × ℕ → List PlacedClock → ℕ → Type 0
Rises days cs x = minutes_before days cs x < minutes_before days cs (x + 1)

rises_behind : (days : ℕ × ℕ) (c : PlacedClock) (cs : List PlacedClock) (x : ℕ) → Rises days cs x → Rises days (c ∷ cs) x
rises_behind days c cs x h = omega (arith, h, part_more c.place x (minutes_in c.clock days))

rises_here : (days : ℕ × ℕ) (c : PlacedClock) (cs : List PlacedClock) → 0 < minutes_in c.clock days → Rises days (c ∷ cs) c.place
rises_here days c cs some =
    let m = minutes_in c.clock days in
    omega (arith, some, part_out c.place c.place m (omega arith), part_in c.place (c.place + 1) m (omega arith), before_more days cs c.place)

rise_if : (days : ℕ × ℕ) (c : PlacedClock) (cs : List PlacedClock) (t : Bool) (sum : ℕ) (ms : List RunningSum) (k : ℕ) (d : RunningSum) → nat_lt 0 (minutes_in c.clock days) ≡ t →
    ((i : ℕ) → i < length ms → Rises days cs (get_or ms i d).place) → k < length (mark_if t c.place sum ms) → Rises days (c ∷ cs) (get_or (mark_if t c.place sum ms) k d).place
rise_if days c cs true sum ms zero d is next lt = rises_here days c cs (lt_from 0 (minutes_in c.clock days) is)
rise_if days c cs true sum ms (suc k) d is next lt = rises_behind days c cs _ (next k (omega (arith, lt)))
rise_if days c cs false sum ms k d is next lt = rises_behind days c cs _ (next k lt)

pub marks_rise : (days : ℕ × ℕ) (sum : ℕ) (cs : List PlacedClock) (k : ℕ) (d : RunningSum) → k < length (marks_from days sum cs) →
    Rises days cs (get_or (marks_from days sum cs) k d).place
marks_rise days sum [] k d lt = absurd (omega (arith, lt))
marks_rise days sum (c ∷ cs) k d lt =
    rise_if days c cs (nat_lt 0 (minutes_in c.clock days)) sum (marks_from days (sum + minutes_in c.clock days) cs) k d refl
    (λ i inside. marks_rise days (sum + minutes_in c.clock days) cs i d inside) lt

zero_left : (n : ℕ) → n ≡ 0 + n
zero_left n = omega arith

-- the marks of clocks in order, with the sum of all
pub made : (days : ℕ × ℕ) (cs : List PlacedClock) (ms : List RunningSum) (total : ℕ) → AreInOrder 0 cs → ms ≡ marks_from days 0 cs → total ≡ minutes_of days cs →
    (AreRising ms total) × ((x : ℕ) → sum_at ms total x ≡ minutes_before days cs x)
made days cs ms total order is all =
    let sums : (x : ℕ) → sum_at ms total x ≡ minutes_before days cs x =
    λ x. (λ i. sum_at (is i) (all i) x) ∙ ap (λ n. sum_at (marks_from days 0 cs) n x) (zero_left (minutes_of days cs)) ∙ sums_are days 0 0 cs x order ∙ sym (zero_left (minutes_before days cs x)) in (
      record {
        order = subst (λ (ns : List RunningSum). AreSumsInOrder 0 ns) (sym is) (marks_in_order days 0 0 cs order);
        rises = λ k d lt.
            let there : Rises days cs (get_or ms k d).place =
            subst (λ (ns : List RunningSum). k < length ns → Rises days cs (get_or ns k d).place) (sym is) (marks_rise days 0 cs k d) lt in
            omega (arith, there, sums (get_or ms k d).place, sums ((get_or ms k d).place + 1));
      },
      sums,
    )

-- the places of marks by their own places
from_first : (at : ℕ) (ms : List RunningSum) (k : ℕ) (d : RunningSum) → AreSumsInOrder at ms → k < length ms → at ≤ (get_or ms k d).place
from_first at [] k d order lt = absurd (omega (arith, lt))
from_first at (m ∷ ms) zero d order lt = order.0
from_first at (m ∷ ms) (suc k) d order lt = omega (arith, order.0, from_first m.place ms k d order.1 (omega (arith, lt)))

pub pair_in_order : (at : ℕ) (ms : List RunningSum) (i j : ℕ) (d : RunningSum) → AreSumsInOrder at ms → i ≤ j → j < length ms → (get_or ms i d).place ≤ (get_or ms j d).place
pair_in_order at [] i j d order le lt = absurd (omega (arith, lt))
pair_in_order at (m ∷ ms) zero zero d order le lt = omega arith
pair_in_order at (m ∷ ms) zero (suc j) d order le lt = from_first m.place ms j d order.1 (omega (arith, lt))
pair_in_order at (m ∷ ms) (suc i) zero d order le lt = absurd (omega (arith, le))
pair_in_order at (m ∷ ms) (suc i) (suc j) d order le lt = pair_in_order m.place ms i j d order.1 (omega (arith, le)) (omega (arith, lt))

pub parted : (ms : List RunningSum) (x : ℕ) → AreSumsInOrder 0 ms → IsPartitionedBy (λ (m : RunningSum). nat_lt m.place x) ms
parted ms x order i j d le lt h =
    lt_true _ x (omega (arith, pair_in_order 0 ms i j d order le lt, lt_from (get_or ms j d).place x h))

tail : (m : RunningSum) (ms : List RunningSum) (x k : ℕ) → AreBefore (m ∷ ms) x (suc k) → AreBefore ms x k
tail m ms x k are = record {
  within = omega (arith, are.within);
  earlier = λ i d lt. are.earlier (suc i) d (omega (arith, lt));
  later = λ i d le lt. are.later (suc i) d (omega (arith, le)) (omega (arith, lt));
}

-- the sum before a place, by how many marks stand before it
pub at_count : (ms : List RunningSum) (total x k : ℕ) (d : RunningSum) → AreBefore ms x k → k < length ms → sum_at ms total x ≡ (get_or ms k d).before
at_count [] total x k d are lt = absurd (omega (arith, lt))
at_count (m ∷ ms) total x zero d are lt =
    ap (λ t. if t then m.before else sum_at ms total x) (le_true x m.place (are.later 0 d (omega arith) lt))
at_count (m ∷ ms) total x (suc k) d are lt =
    ap (λ t. if t then m.before else sum_at ms total x) (le_false x m.place (are.earlier 0 d (omega arith))) ∙ at_count ms total x k d (tail m ms x k are) (omega (arith, lt))

pub at_end : (ms : List RunningSum) (total x k : ℕ) (d : RunningSum) → AreBefore ms x k → length ms ≤ k → sum_at ms total x ≡ total
at_end [] total x k d are le = refl
at_end (m ∷ ms) total x zero d are le = absurd (omega (arith, le))
at_end (m ∷ ms) total x (suc k) d are le =
    ap (λ t. if t then m.before else sum_at ms total x) (le_false x m.place (are.earlier 0 d (omega arith))) ∙ at_end ms total x k d (tail m ms x k are) (omega (arith, le))

-- as many marks stand before two places: the sums before them are the same
pub same_count : (ms : List RunningSum) (total x y k : ℕ) (d : RunningSum) → AreBefore ms x k → AreBefore ms y k → sum_at ms total x ≡ sum_at ms total y
same_count ms total x y k d a b = elim (split k (length ms)) [
  | inl lt ↦ at_count ms total x k d a lt ∙ sym (at_count ms total y k d b lt)
  | inr le ↦ at_end ms total x k d a le ∙ sym (at_end ms total y k d b le)
]

-- none before a place: none before the first
pub none_before : (ms : List RunningSum) (x : ℕ) → AreBefore ms x 0 → AreBefore ms 0 0
none_before ms x are = record {
  within = omega arith;
  earlier = λ i d lt. absurd (omega (arith, lt));
  later = λ i d le lt. omega arith;
}

-- right after the last of those before a place as many stand
pub last_before : (ms : List RunningSum) (x k : ℕ) (d : RunningSum) → AreSumsInOrder 0 ms → AreBefore ms x (suc k) → AreBefore ms ((get_or ms k d).place + 1) (suc k)
last_before ms x k d order are = record {
  within = are.within;
  earlier = λ i e lt.
      let same : get_or ms k e ≡ get_or ms k d = any_default ms k e d (omega (arith, are.within)) in
      let place : (get_or ms k e).place ≡ (get_or ms k d).place = ap (λ (m : RunningSum). m.place) same in
      omega (arith, place, pair_in_order 0 ms i k e order (omega (arith, lt)) (omega (arith, are.within)));
  later = λ i e le lt. omega (arith, are.earlier k d (omega arith), are.later i e le lt);
}
  where
    any_default : (ms : List RunningSum) (k : ℕ) (e d : RunningSum) → k < length ms → get_or ms k e ≡ get_or ms k d
    any_default [] k e d lt = absurd (omega (arith, lt))
    any_default (m ∷ ms) zero e d lt = refl
    any_default (m ∷ ms) (suc k) e d lt = any_default ms k e d (omega (arith, lt))

-- after all clocks
pub marks_ended : (days : ℕ × ℕ) (ms all : List RunningSum) (total i : ℕ) (cs : List PlacedClock) → length cs ≤ i → ms ++ marks_from days total (drop i cs) ≡ all → ms ≡ all
marks_ended days ms all total i cs le so_far =
    sym (append-nil ms) ∙ ap (λ rest. ms ++ marks_from days total rest) (sym (drop_all i cs le)) ∙ so_far

pub minutes_ended : (days : ℕ × ℕ) (total all i : ℕ) (cs : List PlacedClock) → length cs ≤ i → total + minutes_of days (drop i cs) ≡ all → total ≡ all
minutes_ended days total all i cs le so_far = omega (arith, ap (minutes_of days) (drop_all i cs le), so_far)
