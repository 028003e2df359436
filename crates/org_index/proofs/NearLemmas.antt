-- The sets of days hold the ids of all near stamps.
use Rattle.std.proofs.Common.{◌≡◌, ℕ, ◌+◌, ◌-◌, ◌*◌, ◌<◌, ◌≤◌, Bool, true, false, cond, ◌&&◌, ◌||◌, ltb, IsTrue, inl, inr, refl, sym, ap, ◌∙◌, subst, true≢false, arith, List}
use Rattle.std.specs.Prelude.{Option, Some, None, nat_eq, nat_le, nat_lt, ◌==◌, if◌then◌else◌}
use Rattle.std.specs.Ordering.{nat_cmp}
use Rattle.std.specs.BTreeMap.{BTreeMap, get, is_at}
use Rattle.std.specs.BTreeSet.{BTreeSet, contains}
use Rattle.std.proofs.lemmas.Bool.{cond_both, ltb-true, cases_lt, cases_Bool, and_parts, or_cases}
use Rattle.std.proofs.lemmas.Bool.Decides.{nat_tests}
use Rattle.org_index.specs.declared.reach.Reach.{Reach}
use Rattle.org_index.specs.DaySet.{key_cmp, Stands, Has, Keeps, Adds, Fits, IsSet, stands_by, is_day, own_day, repeated_day, delayed_day, warned_day, range_day, class_of, bound_of, class_day}
use Rattle.org_index.specs.Near.{lies_in, meets, meets_if, touches, warns}

pub keeps_more : (a b c : List ℕ) → Keeps a b → Keeps b c → Keeps a c
keeps_more a b c h k = λ id x. k id (h id x)

pub adds_kept : (day_set : BTreeSet (ℕ × ℕ)) (from to : ℕ) (a b : List ℕ) → Adds day_set from to a → Keeps a b → Adds day_set from to b
adds_kept day_set from to a b h k = λ id day low high x. k id (h id day low high x)

-- the classes so far, and one more
pub adds_next : (day_set : BTreeSet (ℕ × ℕ)) (from class base low : ℕ) (a b : List ℕ) → base ≡ 4194304 * class → low ≡ from - bound_of class → ((j : ℕ) → j < class → Adds day_set (class_day j (from - bound_of j)) (class_day j from) a) → Keeps a b → Adds day_set (base + low) (base + from) b → (j : ℕ) → j < class + 1 → Adds day_set (class_day j (from - bound_of j)) (class_day j from) b
adds_next day_set from class base low a b bi li h k more j lt = elim (cases_lt j class) [
  | inl below ↦ adds_kept day_set (class_day j (from - bound_of j)) (class_day j from) a b (h j below) k
  | inr not_below ↦
      let same : class ≡ j = omega arith in
      let x : base + low ≡ class_day class (from - bound_of class) = ap (λ n. n + low) bi ∙ ap (λ n. 4194304 * class + n) li in
      let y : base + from ≡ class_day class from = ap (λ n. n + from) bi in
      subst (λ i. Adds day_set (class_day i (from - bound_of i)) (class_day i from) b) same (subst (λ p. Adds day_set p (class_day class from) b) x (subst (λ q. Adds day_set (base + low) q b) y more))
]

same_day : (d : ℕ) → nat_eq d d ≡ true
same_day d = grind (arith, nat_tests)

-- a stamp's id stands on its day of a set of days
stands : (key : Reach → Option ℕ) (reaches : BTreeMap ℕ Reach) (day_set : BTreeSet (ℕ × ℕ)) (e : Reach) (id d : ℕ) → Fits key reaches day_set → get nat_cmp reaches id ≡ Some e → key e ≡ Some d → Stands day_set d id
stands key reaches day_set e id d fits got is = fits d id ∙ (ap (λ o. stands_by key o d) got ∙ (ap (λ k. is_day k d) is ∙ same_day d))

class_cases : (n : ℕ) (P : ℕ → Type 0) → (n < 8 → P 0) → (n < 64 → P 1) → (n < 512 → P 2) → (n < 4096 → P 3) → (n < 32768 → P 4) → (n < 262144 → P 5) → P 6 → P (class_of n)
class_cases n P a b c d e f g =
    cond_both (ltb n 8) 0 _ P (λ h. a (ltb-true n 8 h)) (λ h.
    cond_both (ltb n 64) 1 _ P (λ h. b (ltb-true n 64 h)) (λ h.
    cond_both (ltb n 512) 2 _ P (λ h. c (ltb-true n 512 h)) (λ h.
    cond_both (ltb n 4096) 3 _ P (λ h. d (ltb-true n 4096 h)) (λ h.
    cond_both (ltb n 32768) 4 _ P (λ h. e (ltb-true n 32768 h)) (λ h.
    cond_both (ltb n 262144) 5 6 P (λ h. f (ltb-true n 262144 h)) (λ h. g))))))

if_some : (b : Bool) (d : ℕ) → b ≡ true → (if b then Some d else None) ≡ Some d
if_some true d h = refl
if_some false d h = absurd (true≢false (sym h))

if_none : (b : Bool) (d : ℕ) → b ≡ false → (if b then None else Some d) ≡ Some d
if_none false d h = refl
if_none true d h = absurd (true≢false h)

le_of : (a b : ℕ) → nat_le a b ≡ true → a ≤ b
le_of a b h = grind (arith, nat_tests)

lt_is : (a b : ℕ) → a < b → nat_lt a b ≡ true
lt_is a b h = grind (arith, nat_tests)

eq_of : (a b : ℕ) → (a == b) ≡ true → a ≡ b
eq_of a b h = grind (arith, nat_tests)

-- a range that began before the days and reaches into them stands in its class's stretch
in_class : (ranges : BTreeSet (ℕ × ℕ)) (found : List ℕ) (from day last id : ℕ) → from < 4194304 → day < from → from ≤ last →
    ((j : ℕ) → j < 7 → Adds ranges (class_day j (from - bound_of j)) (class_day j from) found) →
    Stands ranges (class_day (class_of (last - day)) day) id → Has found id
in_class ranges found from day last id small before reach adds =
    class_cases (last - day) (λ j. Stands ranges (class_day j day) id → Has found id)
    (λ h x. adds 0 (omega arith) id (class_day 0 day) (omega arith) (omega arith) x)
    (λ h x. adds 1 (omega arith) id (class_day 1 day) (omega arith) (omega arith) x)
    (λ h x. adds 2 (omega arith) id (class_day 2 day) (omega arith) (omega arith) x)
    (λ h x. adds 3 (omega arith) id (class_day 3 day) (omega arith) (omega arith) x)
    (λ h x. adds 4 (omega arith) id (class_day 4 day) (omega arith) (omega arith) x)
    (λ h x. adds 5 (omega arith) id (class_day 5 day) (omega arith) (omega arith) x)
    (λ x. adds 6 (omega arith) id (class_day 6 day) (omega arith) (omega arith) x)

module _ (reaches : BTreeMap ℕ Reach) (days repeating delayed warned ranges : BTreeSet (ℕ × ℕ)) (found : List ℕ) (from to today id : ℕ) (e : Reach)
    (small : from < 4194304)
    (fd : Fits own_day reaches days) (fr : Fits repeated_day reaches repeating) (fe : Fits delayed_day reaches delayed) (fw : Fits warned_day reaches warned) (fg : Fits range_day reaches ranges)
    (ad : Adds days from to found) (aa : IsTrue (lies_in from to today) → Adds days 0 (today + 14) found) (ar : Adds repeating 0 to found) (ae : Adds delayed from to found)
    (aw : IsTrue (lies_in from to today) → Adds warned 0 today found)
    (ag : (j : ℕ) → j < 7 → Adds ranges (class_day j (from - bound_of j)) (class_day j from) found)
    (got : get nat_cmp reaches id ≡ Some e) where
  by_day : from ≤ e.first → e.first ≤ to → Has found id
  by_day low high = ad id e.first low high (stands own_day reaches days e id e.first fd got refl)

  by_range : e.first < from → from ≤ e.last → Has found id
  by_range before reach =
      in_class ranges found from e.first e.last id small before reach ag
      (stands range_day reaches ranges e id (class_day (class_of (e.last - e.first)) e.first) fg got (if_some (nat_lt e.first e.last) _ (lt_is e.first e.last (omega (arith, before, reach)))))

  by_days : (nat_le e.first to && (e.repeats || nat_le from e.last)) ≡ true → Has found id
  by_days h =
      let p = and_parts (nat_le e.first to) (e.repeats || nat_le from e.last) h in
      let high : e.first ≤ to = le_of e.first to p.0 in
      elim (or_cases e.repeats (nat_le from e.last) p.1) [
        | inl again ↦ ar id e.first (omega arith) high (stands repeated_day reaches repeating e id e.first fr got (if_some e.repeats e.first again))
        | inr reach ↦ elim (cases_lt e.first from) [
          | inl before ↦ by_range before (le_of from e.last reach)
          | inr within ↦ by_day within high
        ]
      ]

  by_delay : lies_in from to e.delayed ≡ true → Has found id
  by_delay h =
      let p = and_parts (nat_le from e.delayed) (nat_le e.delayed to) h in
      let low : from ≤ e.delayed = le_of from e.delayed p.0 in
      let high : e.delayed ≤ to = le_of e.delayed to p.1 in
      elim (cases_Bool (e.delayed == e.first)) [
        | inl same ↦ let at : e.delayed ≡ e.first = eq_of e.delayed e.first same in by_day (omega (arith, at, low)) (omega (arith, at, high))
        | inr other ↦ ae id e.delayed low high (stands delayed_day reaches delayed e id e.delayed fe got (if_none (e.delayed == e.first) e.delayed other))
      ]

  by_warning : (lies_in from to today && nat_le e.warned today) ≡ true → Has found id
  by_warning h =
      let p = and_parts (lies_in from to today) (nat_le e.warned today) h in
      let soon : e.warned ≤ today = le_of e.warned today p.1 in
      elim (cases_Bool (e.warned == e.first - 14)) [
        | inl same ↦ let at : e.warned ≡ e.first - 14 = eq_of e.warned (e.first - 14) same in
            aa p.0 id e.first (omega arith) (omega (arith, at, soon)) (stands own_day reaches days e id e.first fd got refl)
        | inr other ↦ aw p.0 id e.warned (omega arith) soon (stands warned_day reaches warned e id e.warned fw got (if_none (e.warned == e.first - 14) e.warned other))
      ]

  pub near_found : meets from to today e ≡ true → Has found id
  near_found h =
      let r1 = nat_le e.first to && (e.repeats || nat_le from e.last) in
      let r2 = lies_in from to e.delayed in
      elim (or_cases (touches from to e) (warns from to today e) h) [
        | inl some ↦ elim (or_cases r1 r2 some) [ inl a ↦ by_days a | inr a ↦ by_delay a ]
        | inr a ↦ by_warning a
      ]

-- the same where the id may have no stamp
pub found_all : (reaches : BTreeMap ℕ Reach) (days repeating delayed warned ranges : BTreeSet (ℕ × ℕ)) (found : List ℕ) (from to today id : ℕ) (o : Option Reach) → from < 4194304 →
    Fits own_day reaches days → Fits repeated_day reaches repeating → Fits delayed_day reaches delayed → Fits warned_day reaches warned → Fits range_day reaches ranges →
    Adds days from to found → (IsTrue (lies_in from to today) → Adds days 0 (today + 14) found) → Adds repeating 0 to found → Adds delayed from to found → (IsTrue (lies_in from to today) → Adds warned 0 today found) →
    ((j : ℕ) → j < 7 → Adds ranges (class_day j (from - bound_of j)) (class_day j from) found) →
    get nat_cmp reaches id ≡ o → meets_if from to today o ≡ true → Has found id
found_all reaches days repeating delayed warned ranges found from to today id None small fd fr fe fw fg ad aa ar ae aw ag got h = absurd (true≢false (sym h))
found_all reaches days repeating delayed warned ranges found from to today id (Some e) small fd fr fe fw fg ad aa ar ae aw ag got h = near_found reaches days repeating delayed warned ranges found from to today id e small fd fr fe fw fg ad aa ar ae aw ag got h

or_none : (b old : Bool) → old ≡ false → (if b then true else old) ≡ b
or_none true old none = refl
or_none false old none = none

other_id : (id i : ℕ) → is_at (nat_cmp id) i ≡ false → nat_eq i id ≡ false
other_id id i h = grind (arith, nat_tests)

same_id : (id i : ℕ) → is_at (nat_cmp id) i ≡ true → i ≡ id
same_id id i h = grind (arith, nat_tests)

-- one stamp more
pub fits_put : (key : Reach → Option ℕ) (reaches reaches₂ : BTreeMap ℕ Reach) (day_set day_set₂ : BTreeSet (ℕ × ℕ)) (day : Option ℕ) (e : Reach) (id : ℕ) → Fits key reaches day_set → get nat_cmp reaches id ≡ None → day ≡ key e →
    IsSet true day id day_set day_set₂ → ((q : ℕ) → get nat_cmp reaches₂ q ≡ cond (is_at (nat_cmp id) q) (Some e) (get nat_cmp reaches q)) → Fits key reaches₂ day_set₂
fits_put key reaches reaches₂ day_set day_set₂ day e id fits new is set updates d i = elim (cases_Bool (is_at (nat_cmp id) i)) [
  | inl own ↦
      let same : i ≡ id = same_id id i own in
      let got : get nat_cmp reaches₂ i ≡ Some e = updates i ∙ ap (λ b. cond b (Some e) (get nat_cmp reaches i)) own in
      let was : contains key_cmp day_set (d, i) ≡ false = fits d i ∙ ap (λ (o : Option Reach). stands_by key o d) (ap (λ k. get nat_cmp reaches k) same ∙ new) in
      let at : nat_eq i id ≡ true = ap (λ k. nat_eq i k) (sym same) ∙ same_day i in
      set d i
      ∙ ap (λ b. if b && is_day day d then true else contains key_cmp day_set (d, i)) at
      ∙ or_none (is_day day d) (contains key_cmp day_set (d, i)) was
      ∙ ap (λ o. is_day o d) is
      ∙ sym (ap (λ (o : Option Reach). stands_by key o d) got)
  | inr other ↦
      set d i
      ∙ ap (λ b. if b && is_day day d then true else contains key_cmp day_set (d, i)) (other_id id i other)
      ∙ fits d i
      ∙ sym (ap (λ (o : Option Reach). stands_by key o d) (updates i ∙ ap (λ b. cond b (Some e) (get nat_cmp reaches i)) other))
]
