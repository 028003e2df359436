-- From one heading with minutes up to the one before it.
use Rattle.std.proofs.Common.{◌≡◌, ◌∙◌, inl, inr, ℕ, zero, suc, ◌+◌, ◌-◌, ◌<◌, ◌≤◌, Bool, true, false, cond, ◌&&◌, is_some, Option, None, Some, List, [], ◌∷◌, ◌++◌, length, drop, get_or, reverse, refl, sym, ap, subst, arith}
use Rattle.std.specs.Prelude.{nat_le, nat_lt}
use Rattle.std.proofs.lemmas.List.{drop_all, reverse-append}
use Rattle.org_entry.specs.declared.entry.Entry.{Entry}
use Rattle.org_outline.proofs.Below.{ancestors_fall, subtree_is_what_is_below}
use Rattle.org_outline.proofs.Parents.{parent_is_nearest}
use Rattle.org_outline.specs.Levels.{level_of, levels}
use Rattle.org_outline.specs.Tree.{end_of, is_smaller, level_at, parent}
use Rattle.org_sum.proofs.Ranges.{end_in, own_none, sum_more, sum_up, sums_are}
use Rattle.org_sum.specs.Measures.{clock_minutes, effort_minutes}
use Rattle.org_sum.specs.Sums.{own_at, sum_below}
use Rattle.org_clocktable.specs.Clocked.{AreOf, IsHeadingOrEnd, IsLastClocked, NoneHas}
use Rattle.org_clocktable.specs.Counted.{Counted, clocks_before, heading_sum}
use Rattle.org_clocktable.specs.RunningSums.{IsLastRise, IsLater, Sums, before}
use Rattle.org_clocktable.specs.Table.{level_rows, rows_at}
use Rattle.org_clocktable.proofs.TableWords.{rows_from}
use Rattle.org_clocktable.specs.declared.row.Of.TheVariants.{Heading}
use Rattle.org_clocktable.specs.declared.row.TableRow.{TableRow}
use Rattle.org_clocktable.proofs.RunningSumLemmas.{split}
use Rattle.org_clocktable.proofs.TableLemmas.{entries_more}

-- a subtree that begins after a heading's parent, and before the heading, ends before it
end_before : (ls : List (Option ℕ)) (i below : ℕ) → i < below → is_some (level_at ls below) ≡ true → ((p : ℕ) → parent ls below ≡ Some p → p < i) → end_of ls i ≤ below
end_before ls i below lt heading behind = elim (split below (end_of ls i)) [
  | inl inside ↦ absurd (apart (is_smaller (level_at ls i) (level_at ls below)) (ancestors_fall ls i below ((subtree_is_what_is_below ls i below).1 (lt, inside, heading))).1 (by (parent ls below) refl))
  | inr le ↦ le
]
  where
    apart : (t : Bool) → t ≡ true → t ≡ false → ⊥
    apart true a b = cc
    apart false a b = cc

    by : (o : Option ℕ) → parent ls below ≡ o → is_smaller (level_at ls i) (level_at ls below) ≡ false
    by None is = ((parent_is_nearest ls below).1).0 is i lt
    by (Some p) is = (((parent_is_nearest ls below).0 p).0 is).nearest i (behind p is) lt

-- what the clocks of headings have up to a place
abbrev upto : ℕ × ℕ → Counted → ℕ → ℕ
upto days file place = clocks_before days file place

-- a subtree in which nothing is added has nothing
nothing : (days : ℕ × ℕ) (file : Counted) (i below : ℕ) → i < length file.entries → end_of (levels file.entries) i ≤ below → upto days file i ≡ upto days file below →
    heading_sum (clock_minutes days) file i ≡ 0
nothing days file i below lt le flat =
    let w = own_at (clock_minutes days) file.entries file.counted in
    let e = end_in file.entries i lt in
    omega (
      arith,
      sums_are (clock_minutes days) file.entries file.counted i lt,
      sum_up w i (end_of (levels file.entries) i) (omega (arith, e.0)),
      sum_up w (end_of (levels file.entries) i) below le,
      flat,
    )

-- between two places with one sum all places have it
between : (days : ℕ × ℕ) (file : Counted) (a i below : ℕ) → a ≤ i → i ≤ below → upto days file a ≡ upto days file below → upto days file i ≡ upto days file below
between days file a i below le ge flat =
    let w = own_at (clock_minutes days) file.entries file.counted in
    omega (arith, sum_up w a i le, sum_up w i below ge, flat)

-- where the sum rises stands a heading
rise_heading : (days : ℕ × ℕ) (file : Counted) (p : ℕ) → upto days file p < upto days file (p + 1) → is_some (level_at (levels file.entries) p) ≡ true
rise_heading days file p rise = by (is_some (level_at (levels file.entries) p)) refl
  where
    by : (t : Bool) → is_some (level_at (levels file.entries) p) ≡ t → t ≡ true
    by true is = refl
    by false is =
        let w = own_at (clock_minutes days) file.entries file.counted in
        absurd (omega (arith, rise, sum_more w p, own_none (clock_minutes days) file.entries file.counted p is))

-- the last rise, said of a file
abbrev RiseOf : ℕ × ℕ → Counted → ℕ → Option ℕ → Type 0
RiseOf days file below own = IsLastRise (upto days file) below own

pub rise_of : (sums : Sums) (file : Counted) (below : ℕ) (own : Option ℕ) → AreOf sums file → IsLastRise (before sums) below own → IsLastRise (clocks_before sums.days file) below own
rise_of sums file below None are h = sym (are below) ∙ h ∙ are 0
rise_of sums file below (Some p) are h =
    (h.0, omega (arith, are p, are (p + 1), h.1), sym (are (p + 1)) ∙ h.2 ∙ are below)

-- after what the clocks' own headings say, all sums up to a place are one
flat_behind : (days : ℕ × ℕ) (file : Counted) (below : ℕ) (own : Option ℕ) (i : ℕ) → RiseOf days file below own → ((p : ℕ) → own ≡ Some p → p < i) → i ≤ below → upto days file i ≡ upto days file below
flat_behind days file below None i rise behind le = between days file 0 i below (omega arith) le (sym rise)
flat_behind days file below (Some p) i rise behind le = between days file (p + 1) i below (omega (arith, behind p refl)) le rise.2

-- ends of subtrees that begin after what is found
abbrev EndsBefore : Counted → ℕ → Option ℕ → Type 0
EndsBefore file below above = (i : ℕ) → i < below → ((p : ℕ) → above ≡ Some p → p < i) → end_of (levels file.entries) i ≤ below

abbrev AreHeadings : Counted → ℕ → Option ℕ → Type 0
AreHeadings file below above = (p : ℕ) → above ≡ Some p → (p < below) × (is_some (level_at (levels file.entries) p) ≡ true)

own_headings : (days : ℕ × ℕ) (file : Counted) (below : ℕ) (own : Option ℕ) → RiseOf days file below own → AreHeadings file below own
own_headings days file below None rise p is = absurd cc
own_headings days file below (Some q) rise p is =
    let same : q ≡ p = cc in
    subst (λ (x : ℕ). (x < below) × (is_some (level_at (levels file.entries) x) ≡ true)) same (rise.0, rise_heading days file q rise.1)

last_clocked : (days : ℕ × ℕ) (file : Counted) (below : ℕ) (above own found : Option ℕ) → below ≤ length file.entries → EndsBefore file below above → AreHeadings file below above →
    RiseOf days file below own → IsLater above own found → IsLastClocked days file below found
last_clocked days file below above own None within ends headings rise later =
    λ i from lt.
    nothing days file i below (omega (arith, lt, within)) (ends i lt (λ p is. absurd (none above later.0 p is)))
    (flat_behind days file below own i rise (λ p is. absurd (none own later.1 p is)) (omega (arith, lt)))
  where
    none : (o : Option ℕ) → o ≡ None → (p : ℕ) → o ≡ Some p → ⊥
    none o a p b = cc
last_clocked days file below above own (Some r) within ends headings rise later =
    let is : (r < below) × (is_some (level_at (levels file.entries) r) ≡ true) =
    elim later.0 [ inl a ↦ headings r a | inr b ↦ own_headings days file below own rise r b ] in (
      is.0,
      record { within = omega (arith, is.0, within); heading = λ lt. is.1 },
      λ i from lt.
          nothing days file i below (omega (arith, lt, within)) (ends i lt (λ p at. omega (arith, later.1 p at, from)))
          (flat_behind days file below own i rise (λ p at. omega (arith, later.2 p at, from)) (omega (arith, lt))),
    )

-- at the end nothing stands above
pub at_end : (days : ℕ × ℕ) (file : Counted) (below : ℕ) (own : Option ℕ) → below ≡ length file.entries → IsLastRise (clocks_before days file) below own → IsLastClocked days file below own
at_end days file below own is rise =
    last_clocked days file below None own own (omega (arith, is)) (λ i lt h. omega (arith, is, (end_in file.entries i (omega (arith, lt, is))).1)) (λ p none. absurd cc) rise (later own refl)
  where
    later : (o : Option ℕ) → own ≡ o → IsLater None o o
    later None e = (refl, refl)
    later (Some r) e = (inr refl, (λ p none. absurd cc), (λ p at. let same : r ≡ p = cc in omega (arith, same)))

-- at a heading its parent does
pub at_heading : (days : ℕ × ℕ) (file : Counted) (below : ℕ) (above own found : Option ℕ) → IsHeadingOrEnd file.entries below → (below ≡ length file.entries → ⊥) →
    above ≡ parent (levels file.entries) below → IsLastRise (clocks_before days file) below own → IsLater above own found → IsLastClocked days file below found
at_heading days file below above own found stop inner is rise later =
    let ls = levels file.entries in
    let lt : below < length file.entries = inside below (length file.entries) stop.within inner in
    last_clocked days file below above own found stop.within
    (λ i before behind. end_before ls i below before (stop.heading lt) (λ p at. behind p (is ∙ at)))
    (λ p at. let near = ((parent_is_nearest ls below).0 p).0 (sym is ∙ at) in (near.earlier, level (level_at ls p) (level_at ls below) near.smaller))
    rise later
  where
    inside : (a b : ℕ) → a ≤ b → (a ≡ b → ⊥) → a < b
    inside a b le ne = elim (split a b) [ inl lt ↦ lt | inr ge ↦ absurd (ne (omega (arith, le, ge))) ]

    level : (a b : Option ℕ) → is_smaller a b ≡ true → is_some a ≡ true
    level None b h = absurd cc
    level (Some a) b h = refl

-- the entry at a place
found : (es : List Entry) (i : ℕ) → i < length es → (e : Entry) × (e ≡ get_or es i e)
found [] i lt = absurd (omega (arith, lt))
found (e ∷ es) zero lt = (e, refl)
found (e ∷ es) (suc i) lt = found es i (omega (arith, lt))

pub level_here : (es : List Entry) (i : ℕ) (e : Entry) → i < length es → e ≡ get_or es i e → level_at (levels es) i ≡ level_of e
level_here [] i e lt is = absurd (omega (arith, lt))
level_here (x ∷ xs) zero e lt is = ap level_of (sym is)
level_here (x ∷ xs) (suc i) e lt is = level_here xs i e (omega (arith, lt)) is

-- the rows from a place on are that of the entry there, and those after it
rows_more : (days : ℕ × ℕ) (most file : ℕ) (counted : Counted) (i : ℕ) → i < length counted.entries →
    rows_from days most file counted i (drop i counted.entries) ≡ rows_at days most file counted i ++ rows_from days most file counted (i + 1) (drop (i + 1) counted.entries)
rows_more days most file counted i lt =
    let here = found counted.entries i lt in
    entries_more days most file counted i here.0 lt here.1
    ∙ (λ j. level_rows most file i (heading_sum (clock_minutes days) counted i) (heading_sum effort_minutes counted i) (sym (level_here counted.entries i here.0 lt here.1) j)
    ++ rows_from days most file counted (i + 1) (drop (i + 1) counted.entries))

-- a heading without minutes has no row
and_false : (b : Bool) → (b && false) ≡ false
and_false true = refl
and_false false = refl

no_row : (most file i effort : ℕ) (level : Option ℕ) → level_rows most file i 0 effort level ≡ []
no_row most file i effort None = refl
no_row most file i effort (Some level) = rw (and_false (nat_le level most)) refl

-- up to the next heading that has some no rows are added
skip : (days : ℕ × ℕ) (most file : ℕ) (counted : Counted) (n a b : ℕ) → b ≡ a + n → b ≤ length counted.entries → NoneHas days counted a b →
    rows_from days most file counted a (drop a counted.entries) ≡ rows_from days most file counted b (drop b counted.entries)
skip days most file counted zero a b is within none = let same : a ≡ b = omega (arith, is) in λ j. rows_from days most file counted (same j) (drop (same j) counted.entries)
skip days most file counted (suc n) a b is within none =
    let es = counted.entries in
    let zero_here : heading_sum (clock_minutes days) counted a ≡ 0 = none a (omega arith) (omega (arith, is)) in
    rows_more days most file counted a (omega (arith, is, within))
    ∙ (λ j. level_rows most file a (zero_here j) (heading_sum effort_minutes counted a) (level_at (levels es) a) ++ rows_from days most file counted (a + 1) (drop (a + 1) es))
    ∙ ap (λ rows. rows ++ rows_from days most file counted (a + 1) (drop (a + 1) es)) (no_row most file a (heading_sum effort_minutes counted a) (level_at (levels es) a))
    ∙ skip days most file counted n (a + 1) b (omega (arith, is)) within (λ i from to. none i (omega (arith, from)) to)

one_row : (t : Bool) (row : TableRow) → reverse (cond t (row ∷ []) []) ≡ cond t (row ∷ []) []
one_row true row = refl
one_row false row = refl

turned : (most file i clock effort : ℕ) (level : Option ℕ) → reverse (level_rows most file i clock effort level) ≡ level_rows most file i clock effort level
turned most file i clock effort None = refl
turned most file i clock effort (Some level) = one_row (nat_le level most && nat_lt 0 clock) (record { of = Heading file i level; clock = clock; effort = effort })

-- one heading more, the last first
pub row_before : (days : ℕ × ℕ) (most file : ℕ) (counted : Counted) (place below : ℕ) (old new : List TableRow) → below ≤ length counted.entries → IsLastClocked days counted below (Some place) →
    new ≡ old ++ rows_at days most file counted place → reverse old ≡ rows_from days most file counted below (drop below counted.entries) →
    reverse new ≡ rows_from days most file counted place (drop place counted.entries)
row_before days most file counted place below old new within last pushed so_far =
    let es = counted.entries in
    let here = rows_at days most file counted place in
    let lt : place < below = last.0 in
    ap reverse pushed ∙ reverse-append old here
    ∙ (λ j. turned most file place (heading_sum (clock_minutes days) counted place) (heading_sum effort_minutes counted place) (level_at (levels es) place) j ++ so_far j)
    ∙ ap (λ rows. here ++ rows) (sym (skip days most file counted (below - (place + 1)) (place + 1) below (omega (arith, lt)) within last.2))
    ∙ sym (rows_more days most file counted place (omega (arith, lt, within)))

pub rows_begin : (days : ℕ × ℕ) (most file : ℕ) (counted : Counted) (below : ℕ) → below ≡ length counted.entries → [] ≡ rows_from days most file counted below (drop below counted.entries)
rows_begin days most file counted below is = sym (ap (rows_from days most file counted below) (drop_all below counted.entries (omega (arith, is))))

pub rows_end : (days : ℕ × ℕ) (most file : ℕ) (counted : Counted) (below : ℕ) (rows : List TableRow) → below ≤ length counted.entries → NoneHas days counted 0 below →
    reverse rows ≡ rows_from days most file counted below (drop below counted.entries) → reverse rows ≡ rows_from days most file counted 0 counted.entries
rows_end days most file counted below rows within none so_far = so_far ∙ sym (skip days most file counted below 0 below (omega arith) within none)

-- a heading's sum by what stands before it and before its end
pub sum_of : (days : ℕ × ℕ) (file : Counted) (i e : ℕ) → i < length file.entries → e ≡ end_of (levels file.entries) i →
    (upto days file i ≤ upto days file e) × (upto days file e - upto days file i ≡ heading_sum (clock_minutes days) file i)
sum_of days file i e lt is =
    let w = own_at (clock_minutes days) file.entries file.counted in
    let end = end_in file.entries i lt in
    (sum_up w i e (omega (arith, is, end.0)), ap (λ n. sum_below w n - sum_below w i) is ∙ sym (sums_are (clock_minutes days) file.entries file.counted i lt))
