-- The days of blocks, and the blocks that have days.
use Rattle.std.proofs.Common.{◌≡◌, ◌↔◌, ℕ, ◌+◌, ◌-◌, ◌*◌, ◌<◌, ◌≤◌, true, nat_le, ◌&&◌, ◌==◌, refl, sym, ◌∙◌, ap, subst, arith, pos}
use Rattle.std.specs.Prelude.{Option, Some, None}
use Rattle.std.proofs.lemmas.Bool.Decides.{nat_tests}
use Rattle.std.proofs.lemmas.Option.{option_and_then_some}
use Rattle.jiff_core.proofs.CalendarLemmas.{days_in_month_bounds}
use Rattle.org_cal.specs.Added.{month_index, day_of_month}
use Rattle.org_cal.specs.Blocks.{Days, months_from, this_month, year_block, month_block, quarter_block, week_from, week_called, week_block, day_block}
use Rattle.org_cal.specs.Days.{IsDay, IsYearMonthDay, day_number}
use Rattle.org_cal.specs.Named.{Block, YearBlock, MonthBlock, QuarterBlock, WeekBlock, DayBlock, HasDays}
use Rattle.org_cal.specs.Parts.{weekday_of}
use Rattle.org_cal.specs.Texts.{day_of, is_year_month_day}
use Rattle.org_cal.specs.Weeks.{monday_of, iso_year, iso_week}
use Rattle.org_cal.proofs.AddedLemmas.{day_of_month_real}
use Rattle.org_cal.proofs.MonthLemmas.{at_least, at_most, month_bounds}
use Rattle.org_cal.proofs.AscendLemmas.{months_ordered}
use Rattle.org_cal.proofs.PartLemmas.{number_holds}
use Rattle.org_cal.proofs.TextLemmas.{both, chosen}
use Rattle.org_cal.proofs.WeekLawLemmas.{first_week_has_fourth, thursday_in, weeks_have_mondays, weeks_have_seven_days}

pick_first : Option Days → ℕ
pick_first None = 0
pick_first (Some p) = p.0

pick_last : Option Days → ℕ
pick_last None = 0
pick_last (Some p) = p.1

pub first_of : (a b c d : ℕ) → ◌≡◌ {A = Option Days} (Some (a, b)) (Some (c, d)) → (a ≡ c) × (b ≡ d)
unfolding pick_first pick_last
first_of a b c d e = (ap pick_first e, ap pick_last e)

-- the days from the first to the last are those of the months
pub record AreMonths (index count first last : ℕ) : Type 0 where
  pub low : 12 ≤ index
  pub high : index + count ≤ 120_000
  pub first_is : IsDay first
  pub last_is : IsDay last
  pub ordered : first ≤ last
  pub are_those : (day : ℕ) → IsDay day → ((index ≤ this_month day) × (this_month day < index + count)) ↔ ((first ≤ day) × (day ≤ last))

of_months : (i n : ℕ) → 1 ≤ n → 12 ≤ i → i + n ≤ 120_000 → AreMonths i n (day_of_month i 1) (day_of_month (i + n - 1) 31)
of_months i n some low high =
    let j = i + n - 1 in
    let first = number_holds _ _ _ (day_of_month_real i 1 low (omega arith) (omega arith)) in
    let end = number_holds _ _ _ (day_of_month_real j 31 (omega arith) (omega arith) (omega arith)) in
    record {
      low = low;
      high = high;
      first_is = first;
      last_is = end;
      ordered = months_ordered i j 31 low (omega arith) (omega arith) (omega arith);
      are_those = λ day h.
          let from = at_least i day low (omega arith) h in
          let to = at_most j day (omega arith) (omega arith) h in (
            λ within. (from.0 within.0, to.0 (omega (arith, within.1))),
            λ between. (from.1 between.0, let most = to.1 between.1 in omega (arith, most, low, some)),
          );
    }

pub months_are : (i n f l : ℕ) → 1 ≤ n → months_from i n ≡ Some (f, l) → AreMonths i n f l
months_are i n f l some e =
    chosen (nat_le 12 i && nat_le (i + n) 120_000) _ _ _ e
    (λ both is.
    let low : 12 ≤ i = grind (arith, nat_tests) in
    let high : i + n ≤ 120_000 = grind (arith, nat_tests) in
    let same = first_of _ _ _ _ is in
    subst (λ k. AreMonths i n f k) same.1 (subst (λ k. AreMonths i n k (day_of_month (i + n - 1) 31)) same.0 (of_months i n some low high)))
    (λ no is. absurd (cc))

pub months_some : (i n : ℕ) → 12 ≤ i → i + n ≤ 120_000 → (first : ℕ) × (last : ℕ) × (months_from i n ≡ Some (first, last))
months_some i n low high =
    let both : (nat_le 12 i && nat_le (i + n) 120_000) ≡ true = grind (arith, nat_tests) in
    (day_of_month i 1, day_of_month (i + n - 1) 31, rw both refl)

pub week_some : (monday : ℕ) → 1 ≤ monday → monday + 6 ≤ 3_652_059 → week_from monday ≡ Some (monday, monday + 6)
week_some monday low high =
    let both : (nat_le 1 monday && nat_le (monday + 6) 3_652_059) ≡ true = grind (arith, nat_tests) in
    rw both refl

-- a week's days are those with its Monday
pub week_is : (monday day f l : ℕ) → IsDay day → monday_of day ≡ monday → week_from monday ≡ Some (f, l) → HasDays (WeekBlock (iso_year day) (iso_week day)) f l
week_is monday day f l h is e =
    chosen (nat_le 1 monday && nat_le (monday + 6) 3_652_059) _ _ _ e
    (λ both found.
    let low : 1 ≤ monday = grind (arith, nat_tests) in
    let high : monday + 6 ≤ 3_652_059 = grind (arith, nat_tests) in
    let same = first_of _ _ _ _ found in
    let begins : weekday_of monday ≡ 0 = omega (arith, is, h) in
    let here : IsDay monday = (low, omega (arith, high)) in
    let mine = (weeks_have_mondays monday day here h).1 (omega (arith, is, begins, low)) in
    record {
      first_is = (omega (arith, same.0, low), omega (arith, same.0, high));
      last_is = (omega (arith, same.1, low), omega (arith, same.1, high));
      ordered = omega (arith, same.0, same.1);
      are_those = λ d k.
          let seven = weeks_have_seven_days monday d here begins k in (
            λ lies. let within = seven.0 (mine.0 ∙ sym lies.0, mine.1 ∙ sym lies.1) in (omega (arith, within.0, same.0), omega (arith, within.1, same.1)),
            λ between. let one = seven.1 (omega (arith, between.0, same.0), omega (arith, between.1, same.1)) in (sym one.0 ∙ mine.0, sym one.1 ∙ mine.1),
          );
      whole = omega (arith, same.0, same.1);
    })
    (λ no found. absurd (cc))

-- the days of a block, as they are reckoned
abbrev pub span : Block → Option Days
span (YearBlock y) = year_block y
span (MonthBlock y m) = month_block y m
span (QuarterBlock y q) = quarter_block y q
span (WeekBlock y w) = week_block y w
span (DayBlock n) = day_block n

-- what is reckoned are the days of the block

pub year_is_months : (y f l : ℕ) → AreMonths (12 * y) 12 f l → HasDays (YearBlock y) f l
year_is_months y f l m = record {
  first_is = m.first_is;
  last_is = m.last_is;
  ordered = m.ordered;
  are_those = λ day h.
      let t = month_bounds day h in
      let w = m.are_those day h in (
        λ same. w.0 (omega (arith, same, t.2), omega (arith, same, t.2)),
        λ between. let inside = w.1 between in omega (arith, inside.0, inside.1, t.2),
      );
  whole = tt;
}

pub month_is_months : (y m f l : ℕ) → 1 ≤ m → m ≤ 12 → AreMonths (month_index y m) 1 f l → HasDays (MonthBlock y m) f l
month_is_months y m f l low high a = record {
  first_is = a.first_is;
  last_is = a.last_is;
  ordered = a.ordered;
  are_those = λ day h.
      let t = month_bounds day h in
      let w = a.are_those day h in (
        λ same. w.0 (omega (arith, same.0, same.1, t.2, t.3), omega (arith, same.0, same.1, t.2, t.3, low)),
        λ between. let inside = w.1 between in (omega (arith, inside.0, inside.1, t.2, t.3, low, high), omega (arith, inside.0, inside.1, t.2, t.3, low, high)),
      );
  whole = tt;
}

quarter_is_months : (y q f l : ℕ) → 1 ≤ q → q ≤ 4 → AreMonths (12 * y + 3 * (q - 1)) 3 f l → HasDays (QuarterBlock y q) f l
quarter_is_months y q f l low high a = record {
  first_is = a.first_is;
  last_is = a.last_is;
  ordered = a.ordered;
  are_those = λ day h.
      let t = month_bounds day h in
      let w = a.are_those day h in (
        λ same. w.0 (omega (arith, same.0, same.1, same.2, t.2, t.3), omega (arith, same.0, same.1, same.2, t.2, t.3, low)),
        λ between. let inside = w.1 between in (omega (arith, inside.0, inside.1, t.2, t.3, low, high), omega (arith, inside.0, inside.1, t.2, t.3, low, high), omega (arith, inside.0, inside.1, t.2, t.3, low, high)),
      );
  whole = tt;
}

fourth_is : (y n : ℕ) → day_of y 1 4 ≡ Some n → IsDay n
fourth_is y n e =
    chosen (is_year_month_day y 1 4) _ _ _ e
    (λ real is.
    let low : 1 ≤ y = grind (arith, nat_tests) in
    let high : y ≤ 9999 = grind (arith, nat_tests) in
    let long = days_in_month_bounds (pos y) 1 in
    let same : day_number y 1 4 ≡ n = (cc) in
    subst IsDay same (number_holds y 1 4 ((low, high), (omega arith, omega arith), (omega arith, omega (arith, long)))))
    (λ no is. absurd (cc))

week_span : (y w monday f l : ℕ) → 1 ≤ monday → weekday_of monday ≡ 0 → week_called y w monday ≡ Some (f, l) → HasDays (WeekBlock y w) f l
week_span y w monday f l low begins e =
    chosen ((iso_year monday == y) && (iso_week monday == w)) _ _ _ e
    (λ same found.
    let parts = both (iso_year monday == y) (iso_week monday == w) same in
    let year : iso_year monday ≡ y = (let t = parts.0 in grind (arith, nat_tests)) in
    let week : iso_week monday ≡ w = (let t = parts.1 in grind (arith, nat_tests)) in
    chosen (nat_le 1 monday && nat_le (monday + 6) 3_652_059) _ _ _ found
    (λ fits is.
    let high : monday + 6 ≤ 3_652_059 = grind (arith, nat_tests) in
    subst (λ k. HasDays (WeekBlock k w) f l) year (subst (λ k. HasDays (WeekBlock (iso_year monday) k) f l) week
    (week_is monday monday f l (low, omega (arith, high)) (omega (arith, begins)) found)))
    (λ no is. absurd (cc)))
    (λ no found. absurd (cc))

pub span_is : (b : Block) (f l : ℕ) → span b ≡ Some (f, l) → HasDays b f l
span_is (YearBlock y) f l e = year_is_months y f l (months_are (12 * y) 12 f l (omega arith) e)
span_is (MonthBlock y m) f l e =
    chosen (nat_le 1 m && nat_le m 12) _ _ _ e
    (λ fits found. month_is_months y m f l (grind (arith, nat_tests)) (grind (arith, nat_tests)) (months_are (month_index y m) 1 f l (omega arith) found))
    (λ no found. absurd (cc))
span_is (QuarterBlock y q) f l e =
    chosen (nat_le 1 q && nat_le q 4) _ _ _ e
    (λ fits found. quarter_is_months y q f l (grind (arith, nat_tests)) (grind (arith, nat_tests)) (months_are (12 * y + 3 * (q - 1)) 3 f l (omega arith) found))
    (λ no found. absurd (cc))
span_is (WeekBlock y w) f l e =
    option_and_then_some _ (day_of y 1 4) (f, l) e (λ fourth was next.
    let day = fourth_is y fourth was in
    week_span y w (monday_of fourth + 7 * (w - 1)) f l (omega (arith, day)) (omega (arith, day)) next)
span_is (DayBlock n) f l e =
    chosen (nat_le 1 n && nat_le n 3_652_059) _ _ _ e
    (λ fits found.
    let low : 1 ≤ n = grind (arith, nat_tests) in
    let high : n ≤ 3_652_059 = grind (arith, nat_tests) in
    let same = first_of n n f l found in
    record {
      first_is = (omega (arith, same.0, low), omega (arith, same.0, high));
      last_is = (omega (arith, same.1, low), omega (arith, same.1, high));
      ordered = omega (arith, same.0, same.1);
      are_those = λ day h. (λ is. (omega (arith, is, same.0), omega (arith, is, same.1)), λ between. omega (arith, between.0, between.1, same.0, same.1));
      whole = tt;
    })
    (λ no found. absurd (cc))

-- a block has only one first and last day
pub only : (b : Block) (f l g k : ℕ) → HasDays b f l → HasDays b g k → (f ≡ g) × (l ≡ k)
only b f l g k a c =
    let first = (c.are_those f a.first_is).0 ((a.are_those f a.first_is).1 (omega arith, a.ordered)) in
    let last = (c.are_those l a.last_is).0 ((a.are_those l a.last_is).1 (a.ordered, omega arith)) in
    let first_back = (a.are_those g c.first_is).0 ((c.are_those g c.first_is).1 (omega arith, c.ordered)) in
    let last_back = (a.are_those k c.last_is).0 ((c.are_those k c.last_is).1 (c.ordered, omega arith)) in
    (omega (arith, first.0, first_back.0), omega (arith, last.1, last_back.1))

-- where a block has days, they are reckoned

pair_tested : (a b c d : ℕ) → a ≡ c → b ≡ d → ((a == c) && (b == d)) ≡ true
pair_tested a b c d first second = grind (arith, nat_tests)

week_found : (day : ℕ) → IsDay day → monday_of day + 6 ≤ 3_652_059 → week_block (iso_year day) (iso_week day) ≡ Some (monday_of day, monday_of day + 6)
week_found day h high =
    let y = iso_year day in
    let w = iso_week day in
    let monday = monday_of day in
    let low : 1 ≤ monday = omega (arith, h) in
    let here : IsDay monday = (low, omega (arith, high)) in
    let year = thursday_in day h in
    let long = days_in_month_bounds (pos y) 1 in
    let real : is_year_month_day y 1 4 ≡ true = grind (arith, nat_tests, year.0, year.1, long.0) in
    let date : IsYearMonthDay y 1 4 = ((year.0, year.1), (omega arith, omega arith), (omega arith, omega (arith, long))) in
    let fourth = number_holds y 1 4 date in
    let first = first_week_has_fourth y (year.0, year.1) in
    let theirs = thursday_in (day_number y 1 4) fourth in
    let start : day_number (iso_year (day_number y 1 4)) 1 1 ≡ day_number y 1 1 = ap (λ k. day_number k 1 1) first.0 in
    let same : monday_of (day_number y 1 4) + 7 * (w - 1) ≡ monday = omega (arith, start, first.1, theirs.2, year.2, fourth, h) in
    let mine = (weeks_have_mondays monday day here h).1 (omega (arith, h)) in
    let called : ((iso_year monday == y) && (iso_week monday == w)) ≡ true = pair_tested (iso_year monday) (iso_week monday) y w mine.0 mine.1 in
    rw real (ap (week_called y w) same ∙ rw called (week_some monday low high))

pub span_has : (b : Block) (f l : ℕ) → HasDays b f l → (first : ℕ) × (last : ℕ) × (span b ≡ Some (first, last))
span_has (YearBlock y) f l h =
    let lies = (h.are_those f h.first_is).1 (omega arith, h.ordered) in
    let t = month_bounds f h.first_is in
    months_some (12 * y) 12 (omega (arith, lies, t.0, t.2)) (omega (arith, lies, t.1, t.2))
span_has (MonthBlock y m) f l h =
    let lies = (h.are_those f h.first_is).1 (omega arith, h.ordered) in
    let t = month_bounds f h.first_is in
    let low : 1 ≤ m = omega (arith, lies.1, t.3) in
    let high : m ≤ 12 = omega (arith, lies.1, t.3) in
    let fits : (nat_le 1 m && nat_le m 12) ≡ true = grind (arith, nat_tests) in
    rw fits (months_some (month_index y m) 1 (omega (arith, lies.0, lies.1, t.0, t.2, t.3)) (omega (arith, lies.0, lies.1, t.1, t.2, t.3)))
span_has (QuarterBlock y q) f l h =
    let lies = (h.are_those f h.first_is).1 (omega arith, h.ordered) in
    let t = month_bounds f h.first_is in
    let low : 1 ≤ q = omega (arith, lies.1, lies.2, t.3) in
    let high : q ≤ 4 = omega (arith, lies.1, lies.2, t.3) in
    let fits : (nat_le 1 q && nat_le q 4) ≡ true = grind (arith, nat_tests) in
    rw fits (months_some (12 * y + 3 * (q - 1)) 3 (omega (arith, lies.0, t.0, t.2)) (omega (arith, lies.0, t.1, t.2, low, high)))
span_has (WeekBlock y w) f l h =
    let lies = (h.are_those f h.first_is).1 (omega arith, h.ordered) in
    let day = h.first_is in
    let monday : IsDay (monday_of f) = (omega (arith, day), omega (arith, day)) in
    let mine = (weeks_have_mondays (monday_of f) f monday day).1 (omega (arith, day)) in
    let within = (h.are_those (monday_of f) monday).0 (mine.0 ∙ lies.0, mine.1 ∙ lies.1) in
    let found = week_found f day (omega (arith, within.0, h.whole, h.last_is)) in
    (monday_of f, monday_of f + 6, sym (ap (λ k. week_block k (iso_week f)) lies.0 ∙ ap (week_block y) lies.1) ∙ found)
span_has (DayBlock n) f l h =
    let lies = (h.are_those f h.first_is).1 (omega arith, h.ordered) in
    let low : 1 ≤ n = omega (arith, lies, h.first_is) in
    let high : n ≤ 3_652_059 = omega (arith, lies, h.first_is) in
    let fits : (nat_le 1 n && nat_le n 3_652_059) ≡ true = grind (arith, nat_tests) in
    (n, n, rw fits refl)

-- what is reckoned of a block that has these days are they
pub span_them : (b : Block) (f l : ℕ) → HasDays b f l → span b ≡ Some (f, l)
span_them b f l h =
    let found = span_has b f l h in
    let same = only b found.0 found.1 f l (span_is b found.0 found.1 found.2) h in
    found.2 ∙ (ap (λ k. Some (k, found.1)) same.0 ∙ ap (λ k. Some (f, k)) same.1)
