-- Clock sums behind a clock that ended.
use Rattle.std.proofs.Common.{◌≡◌, ◌≢◌, ◌∙◌, inl, inr, ℕ, zero, suc, ◌+◌, ◌-◌, ◌<◌, ◌≤◌, ◌==◌, ◌||◌, Bool, true, false, List, [], ◌∷◌, ◌++◌, length, map, refl, sym, ap, arith, length-append}
use Rattle.std.specs.Prelude.{Option, if◌then◌else◌, is_some}
use Rattle.std.proofs.lemmas.Bool.{cases_Bool, cases_lt, eqb-false, eqb-true}
use Rattle.std.specs.Option.{option_map}
use Rattle.std.proofs.lemmas.List.{map-append}
use Rattle.std.proofs.lemmas.List.Sums.{sum_by-append, sum_by-cons}
use Rattle.org_act.specs.ClockEntries.{closed, running}
use Rattle.org_act.specs.ClockSums.{Hold, OwnMinutesGrow, SumsGrowAbove, counts_at}
use Rattle.org_drawer.specs.Clock.{minutes_in}
use Rattle.org_entry.specs.declared.entry.Entry.{Entry}
use Rattle.org_outline.specs.Laws.{is_above}
use Rattle.org_outline.specs.Levels.{level_of, levels}
use Rattle.org_sum.specs.Measures.{clock_minutes, minutes_of}
use Rattle.org_sum.specs.Sums.{own_at, subtree_sum, sum_below}

-- own minutes

closed_minutes : (days : ℕ × ℕ) (from to : ℕ) → from ≤ to → Hold days from to → minutes_in (closed from to) days ≡ to - from
closed_minutes days from to order h = omega (arith, h.first, h.last)

pub own_minutes_grow : OwnMinutesGrow
unfolding clock_minutes
own_minutes_grow days from to old new order h e =
    let was : minutes_of days old.details.clocks ≡ minutes_of days e.before + minutes_of days (running from ∷ e.after) =
    ap (minutes_of days) e.clocks_were ∙ sum_by-append (λ c. minutes_in c days) e.before (running from ∷ e.after) in
    let is : minutes_of days new.details.clocks ≡ minutes_of days e.before + minutes_of days (closed from to ∷ e.after) =
    ap (minutes_of days) e.clocks_are ∙ sum_by-append (λ c. minutes_in c days) e.before (closed from to ∷ e.after) in
    let none : minutes_in (running from) days ≡ 0 = refl in
    let old_is : minutes_of days (running from ∷ e.after) ≡ minutes_in (running from) days + minutes_of days e.after = sum_by-cons (λ c. minutes_in c days) (running from) e.after in
    let new_is : minutes_of days (closed from to ∷ e.after) ≡ minutes_in (closed from to) days + minutes_of days e.after = sum_by-cons (λ c. minutes_in c days) (closed from to) e.after in
    let own_is = closed_minutes days from to order h in
    omega (arith, was, is, none, old_is, new_is, own_is)

-- what the entries count, by their places

own_other : (f : Entry → ℕ) (before after : List Entry) (old new : Entry) (counted : List Bool) (j : ℕ) → j ≢ length before →
    own_at f (before ++ new ∷ after) counted j ≡ own_at f (before ++ old ∷ after) counted j
own_other f [] after old new [] j other = refl
own_other f [] after old new (c ∷ cs) zero other = absurd (other refl)
own_other f [] after old new (c ∷ cs) (suc j) other = refl
own_other f (b ∷ before) after old new [] j other = refl
own_other f (b ∷ before) after old new (c ∷ cs) zero other = refl
own_other f (b ∷ before) after old new (c ∷ cs) (suc j) other = own_other f before after old new cs j (λ e. other (ap suc e))

own_here : (f : Entry → ℕ) (before after : List Entry) (e : Entry) (counted : List Bool) → is_some (level_of e) ≡ true →
    own_at f (before ++ e ∷ after) counted (length before) ≡ (if counts_at counted (length before) then f e else 0)
own_here f [] after e [] level = refl
own_here f [] after e (c ∷ cs) level = rw level refl
own_here f (b ∷ before) after e [] level = refl
own_here f (b ∷ before) after e (c ∷ cs) level = own_here f before after e cs level

chosen_more : (b : Bool) (m n k : ℕ) → m ≡ n + k → (if b then m else 0) ≡ (if b then n else 0) + (if b then k else 0)
chosen_more true m n k e = e
chosen_more false m n k e = refl

-- sums of which one term grew

sum_same : (f g : ℕ → ℕ) (n : ℕ) → ((j : ℕ) → j < n → f j ≡ g j) → sum_below f n ≡ sum_below g n
sum_same f g zero each = refl
sum_same f g (suc n) each =
    let more = sum_same f g n (λ j lt. each j (omega arith)) in
    let last = each n (omega arith) in
    omega (arith, more, last)

sum_grows : (f g : ℕ → ℕ) (i m n : ℕ) → i < n → ((j : ℕ) → j ≢ i → f j ≡ g j) → f i ≡ g i + m → sum_below f n ≡ sum_below g n + m
sum_grows f g i m zero lt each here = absurd (omega (arith, lt))
sum_grows f g i m (suc n) lt each here = elim (cases_Bool (n == i)) [
  | inl e ↦
      let same : n ≡ i = eqb-true n i e in
      let before = sum_same f g n (λ j low. each j (λ is. omega (arith, is, low, same))) in
      let last : f n ≡ g n + m = ap f same ∙ (here ∙ ap (λ k. g k + m) (sym same)) in
      omega (arith, before, last)
  | inr e ↦
      let other : n ≢ i = eqb-false n i e in
      let below : i < n = elim (cases_lt i n) [ inl low ↦ low | inr high ↦ absurd (other (omega (arith, lt, high))) ] in
      let more = sum_grows f g i m n below each here in
      let last = each n other in
      omega (arith, more, last)
]

-- levels stay

levels_same : (before after : List Entry) (old new : Entry) → new.head ≡ old.head → levels (before ++ new ∷ after) ≡ levels (before ++ old ∷ after)
levels_same before after old new head =
    let one : level_of new ≡ level_of old = ap (option_map (λ h. h.level)) head in
    map-append level_of before (new ∷ after)
    ∙ (ap (λ (l : Option ℕ). map level_of before ++ l ∷ map level_of after) one ∙ sym (map-append level_of before (old ∷ after)))

same_count : (before after : List Entry) (old new : Entry) → length (before ++ new ∷ after) ≡ length (before ++ old ∷ after)
same_count before after old new = length-append before (new ∷ after) ∙ sym (length-append before (old ∷ after))

taken_same : (b : Bool) (m n : ℕ) → m ≡ n → (if b then m else 0) ≡ (if b then n else 0)
taken_same true m n e = e
taken_same false m n e = refl

pub sums_grow_above : SumsGrowAbove
sums_grow_above days from to before after old new counted heading order h level e =
    let f = clock_minutes days in
    let es = before ++ old ∷ after in
    let ns = before ++ new ∷ after in
    let i : ℕ = length before in
    let ls = levels es in
    let levels_are : levels ns ≡ ls = levels_same before after old new e.others.head in
    let takes : ℕ → Bool = λ j. (j == heading) || is_above ls heading j in
    let m : ℕ = (if counts_at counted i then to - from else 0) in
    let level_new : is_some (level_of new) ≡ true = ap (λ o. is_some (option_map (λ h. h.level) o)) e.others.head ∙ level in
    let grows : own_at f ns counted i ≡ own_at f es counted i + m =
    own_here f before after new counted level_new
    ∙ (chosen_more (counts_at counted i) (f new) (f old) (to - from) (own_minutes_grow days from to old new order h e)
    ∙ ap (λ k. k + m) (sym (own_here f before after old counted level))) in
    let size : length ns ≡ length es = same_count before after old new in
    let long : i < length es = omega (arith, length-append before (old ∷ after)) in
    let count : subtree_sum f ns counted heading ≡ sum_below (λ j. if takes j then own_at f ns counted j else 0) (length es) =
    ap (λ l. sum_below (λ j. if (j == heading) || is_above l heading j then own_at f ns counted j else 0) (length ns)) levels_are
    ∙ ap (sum_below (λ j. if takes j then own_at f ns counted j else 0)) size in
    count
    ∙ sum_grows (λ j. if takes j then own_at f ns counted j else 0) (λ j. if takes j then own_at f es counted j else 0) i (if takes i then m else 0) (length es) long
    (λ j other. taken_same (takes j) (own_at f ns counted j) (own_at f es counted j) (own_other f before after old new counted j other))
    (chosen_more (takes i) (own_at f ns counted i) (own_at f es counted i) m grows)
