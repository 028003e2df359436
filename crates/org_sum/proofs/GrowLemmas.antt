-- What a part of a period has is no more than what the whole has.
use Rattle.std.proofs.Common.{ℕ, zero, suc, ◌≤◌, Bool, true, false, if◌then◌else◌, Option, None, Some, List, [], ◌∷◌, length, arith, ◌&&◌, is_some}
use Rattle.std.specs.List.{sum_by}
use Rattle.std.proofs.lemmas.List.Sums.{sum_by-cons}
use Rattle.org_drawer.specs.Clock.{common_minutes, minutes_in}
use Rattle.org_drawer.proofs.ClockWords.{minutes_to}
use Rattle.org_drawer.specs.declared.clock.ClockLine.{ClockLine}
use Rattle.org_entry.specs.declared.entry.Entry.{Entry}
use Rattle.org_outline.specs.Levels.{level_of}
use Rattle.org_sum.specs.Laws.{PartsHaveNoMore}
use Rattle.org_sum.specs.Measures.{clock_minutes}
use Rattle.org_sum.specs.Sums.{own_at, sum_below}

common_grows : (from to a b c d : ℕ) → c ≤ a → b ≤ d → common_minutes from to a b ≤ common_minutes from to c d
common_grows from to a b c d h k = omega (arith, h, k)

to_grows : (from : ℕ) (to : Option ℕ) (a b c d : ℕ) → c ≤ a → b ≤ d → minutes_to from to a b ≤ minutes_to from to c d
to_grows from None a b c d h k = omega arith
to_grows from (Some to) a b c d h k = common_grows from to a b c d h k

clock_grows : (clock : ClockLine) (p w : ℕ × ℕ) → w.0 ≤ p.0 → p.1 ≤ w.1 → minutes_in clock p ≤ minutes_in clock w
clock_grows clock p w h k = to_grows clock.from clock.to _ _ _ _ (omega (arith, h)) (omega (arith, k))

all_grow : {X : Type 0} (f g : X → ℕ) (xs : List X) → ((x : X) → f x ≤ g x) → sum_by f xs ≤ sum_by g xs
all_grow f g [] h = omega arith
all_grow f g (x ∷ xs) h = omega (arith, sum_by-cons f x xs, sum_by-cons g x xs, h x, all_grow f g xs h)

entry_grows : (e : Entry) (p w : ℕ × ℕ) → w.0 ≤ p.0 → p.1 ≤ w.1 → clock_minutes p e ≤ clock_minutes w e
unfolding clock_minutes
entry_grows e p w h k = all_grow _ _ e.details.clocks (λ clock. clock_grows clock p w h k)

if_grows : (b : Bool) (x y : ℕ) → x ≤ y → (if b then x else 0) ≤ (if b then y else 0)
if_grows true x y h = h
if_grows false x y h = omega arith

own_grows : (f g : Entry → ℕ) (es : List Entry) (cs : List Bool) (j : ℕ) → ((e : Entry) → f e ≤ g e) → own_at f es cs j ≤ own_at g es cs j
own_grows f g [] cs j h = omega arith
own_grows f g (e ∷ es) [] j h = omega arith
own_grows f g (e ∷ es) (c ∷ cs) zero h = if_grows (is_some (level_of e) && c) (f e) (g e) (h e)
own_grows f g (e ∷ es) (c ∷ cs) (suc j) h = own_grows f g es cs j h

below_grows : (f g : ℕ → ℕ) (n : ℕ) → ((j : ℕ) → f j ≤ g j) → sum_below f n ≤ sum_below g n
below_grows f g zero h = omega arith
below_grows f g (suc n) h = omega (arith, below_grows f g n h, h n)

pub parts_have_no_more : PartsHaveNoMore
parts_have_no_more part whole es counted i h k =
    below_grows _ _ (length es) (λ j. if_grows _ _ _ (own_grows (clock_minutes part) (clock_minutes whole) es counted j (λ e. entry_grows e part whole h k)))
