-- A text gives the days of the block that it names.
use Rattle.std.proofs.Common.{◌≡◌, ℕ, ◌+◌, ◌-◌, ◌*◌, ◌/◌, ◌%◌, ◌<◌, ◌≤◌, true, false, nat_le, ◌&&◌, ◌==◌, if◌then◌else◌, List, [], ◌∷◌, ◌++◌, drop, get_or, inl, inr, refl, sym, ◌∙◌, ap, subst, arith, pos, codes}
use Rattle.std.specs.Prelude.{Some, None}
use Rattle.std.specs.Option.{option_and_then}
use Rattle.std.specs.Str.{bytes_eq}
use Rattle.std.proofs.lemmas.Bool.{cases_Bool, cases_lt}
use Rattle.std.proofs.lemmas.Bool.Decides.{nat_tests}
use Rattle.std.proofs.lemmas.Option.{option_and_then_some}
use Rattle.std.proofs.lemmas.Slice.Eq.{bytes_eq-Decides}
use Rattle.jiff_core.proofs.CalendarLemmas.{days_in_month_bounds}
use Rattle.org_cal.specs.Added.{month_index, day_of_month}
use Rattle.org_cal.specs.Blocks.{block_of, dated_block, part_of_year, months_from, this_month, year_block, month_block, quarter_block, week_from, week_block, day_block}
use Rattle.org_cal.specs.Days.{IsDay, IsYearMonthDay, day_number}
use Rattle.org_cal.specs.Laws.{BlocksAreNamed}
use Rattle.org_cal.specs.Named.{Block, YearBlock, MonthBlock, QuarterBlock, WeekBlock, DayBlock, Length, OneDay, OneWeek, OneMonth, OneYear, IsSpelled, IsEve, Names, ByThis, ByLast, BySpelling, HasDays, own, this_word, last_word}
use Rattle.org_cal.specs.Parts.{year_of, month_of, month_day_of}
use Rattle.org_cal.specs.Texts.{two_digits, four_digits, date_of, two, four, date_text, parts_text}
use Rattle.org_cal.specs.Weeks.{monday_of}
use Rattle.org_cal.proofs.AddedLemmas.{day_of_month_real}
use Rattle.org_cal.proofs.MonthLemmas.{as_month, at_least, month_bounds, months_apart, next_month}
use Rattle.org_cal.proofs.PartLemmas.{date_holds, number_holds, parts_are}
use Rattle.org_cal.proofs.SpanLemmas.{AreMonths, month_is_months, months_are, span_is, span_them, week_is, week_some}
use Rattle.org_cal.proofs.TextLemmas.{both, chosen, date_is, four_is, two_is, two_digits-two, four_digits-four, date_of-parts_text}
use Rattle.org_cal.proofs.WeekLawLemmas.{weeks_have_mondays}

-- the days around the first of a block

-- the day before the first of a month
month_eve : (eve : ℕ) → IsDay eve → IsDay (eve + 1) → this_month eve < this_month (eve + 1) → this_month eve ≡ this_month (eve + 1) - 1
month_eve eve h k lt = elim (next_month eve h k) [
  | inl same ↦ absurd (omega (arith, same, lt))
  | inr more ↦ omega (arith, more)
]

-- two days lie in one month or in one year
same_month : (a b : ℕ) → IsDay a → IsDay b → year_of a ≡ year_of b → month_of a ≡ month_of b → this_month a ≡ this_month b
same_month a b h k year month = omega (arith, year, month)

-- the day before a month's first, and the month before
eve_month : (today eve : ℕ) → IsDay today → IsEve (own OneMonth today) eve → this_month eve ≡ this_month today - 1
eve_month today eve h e =
    let there : this_month (eve + 1) ≡ this_month today = same_month (eve + 1) today e.1 h e.3.0 e.3.1 in
    elim (next_month eve e.0 e.1) [
      | inl same ↦
          let t = month_bounds today h in
          let u = month_bounds eve e.0 in
          let one : this_month eve ≡ this_month today = omega (arith, same, there) in
          absurd (e.2 (omega (arith, one, t.2, u.2), omega (arith, one, t.3, u.3)))
      | inr more ↦ omega (arith, more, there)
    ]

eve_year : (today eve : ℕ) → IsDay today → IsEve (own OneYear today) eve → year_of eve ≡ year_of today - 1
eve_year today eve h e =
    let t = month_bounds eve e.0 in
    let u = month_bounds (eve + 1) e.1 in
    elim (next_month eve e.0 e.1) [
      | inl same ↦ absurd (e.2 (omega (arith, same, t.2, u.2, e.3)))
      | inr more ↦
          elim (cases_lt (year_of eve) (year_of (eve + 1))) [
            | inl a ↦ omega (arith, more, t.2, u.2, e.3, a)
            | inr a ↦ absurd (e.2 (omega (arith, more, t.2, u.2, e.3, a)))
          ]
    ]

eve_week : (today eve : ℕ) → IsDay today → IsEve (own OneWeek today) eve → monday_of eve ≡ monday_of today - 7
eve_week today eve h e =
    let there : monday_of (eve + 1) ≡ monday_of today = (weeks_have_mondays (eve + 1) today e.1 h).0 e.3 in
    elim (cases_lt (monday_of eve) (monday_of today)) [
      | inl a ↦ omega (arith, a, there, e.0)
      | inr a ↦ absurd (e.2 ((weeks_have_mondays eve today e.0 h).1 (omega (arith, a, there, e.0))))
    ]

-- the day before the first day of the month
before_month : (today : ℕ) → IsDay today → 13 ≤ this_month today → (eve : ℕ) × IsEve (own OneMonth today) eve × (this_month eve ≡ this_month today - 1)
before_month today h more =
    let t = this_month today in
    let b = month_bounds today h in
    let date = date_holds today h in
    let y = year_of today in
    let m = month_of today in
    let real : IsYearMonthDay y m 1 = (date.0.0, date.0.1, (omega arith, omega (arith, date.0.2))) in
    let first = day_number y m 1 in
    let is : first ≡ day_of_month t 1 = as_month y m 1 real in
    let lower = months_apart (t - 1) t 1 1 (omega (arith, more)) (omega (arith, more)) b.1 (omega arith) (omega arith) in
    let begins = number_holds y m 1 real in
    let start = number_holds _ _ _ (day_of_month_real (t - 1) 1 (omega (arith, more)) (omega (arith, b.1)) (omega arith)) in
    let eve = first - 1 in
    let here : IsDay eve = (omega (arith, is, lower, start), omega (arith, begins)) in
    let again : eve + 1 ≡ first = omega (arith, begins) in
    let there : IsDay (eve + 1) = subst IsDay (sym again) begins in
    let parts = parts_are (eve + 1) y m 1 real again in
    let later : this_month eve < t = elim (cases_lt (this_month eve) t) [
      | inl a ↦ a
      | inr a ↦ absurd (let begun = (at_least t eve b.0 b.1 here).0 a in omega (arith, begun, is, begins))
    ] in
    let not_there : (year_of eve ≡ y) × (month_of eve ≡ m) → ⊥ = λ same. absurd (let one = same_month eve today here h same.0 same.1 in omega (arith, one, later)) in
    let e : IsEve (own OneMonth today) eve = (here, there, not_there, (parts.0, parts.1)) in
    (eve, e, eve_month today eve h e)

before_year : (today : ℕ) → IsDay today → 2 ≤ year_of today → (eve : ℕ) × IsEve (own OneYear today) eve
before_year today h more =
    let y = year_of today in
    let b = month_bounds today h in
    let date = date_holds today h in
    let real : IsYearMonthDay y 1 1 = (date.0.0, (omega arith, omega arith), (omega arith, let long = days_in_month_bounds (pos y) 1 in omega (arith, long))) in
    let begins = number_holds y 1 1 real in
    let first = day_number y 1 1 in
    let parts = parts_are first y 1 1 real refl in
    let t = month_bounds first begins in
    let at : this_month first ≡ 12 * y = omega (arith, t.2, t.3, parts.0, parts.1) in
    let before = before_month first begins (omega (arith, at, more)) in
    let eve = before.0 in
    let e = before.1 in
    let u = month_bounds eve e.0 in
    let v = month_bounds (eve + 1) e.1 in
    let next = same_month (eve + 1) first e.1 begins e.3.0 e.3.1 in
    (eve, (e.0, e.1, λ same. absurd (omega (arith, same, before.2, at, u.2, more)), omega (arith, v.2, next, at)))

-- what is read is named

abbrev Found : List ℕ → ℕ → ℕ → ℕ → Type 0
Found text today first last = (block : Block) × Names text today block × HasDays block first last

yesterday_named : (text : List ℕ) (today f l : ℕ) → IsDay today → text ≡ codes "yesterday" → day_block (today - 1) ≡ Some (f, l) → Found text today f l
yesterday_named text today f l h e found =
    chosen (nat_le 1 (today - 1) && nat_le (today - 1) 3_652_059) _ _ _ found
    (λ fits is.
    let low : 1 ≤ today - 1 = grind (arith, nat_tests) in
    let eve : IsEve (DayBlock today) (today - 1) =
    ((low, omega (arith, h)), (omega (arith, h, low), omega (arith, h, low)), λ same. absurd (omega (arith, same, low)), omega (arith, low)) in
    (DayBlock (today - 1), ByLast OneDay (today - 1) e eve refl, span_is (DayBlock (today - 1)) f l found))
    (λ no is. absurd (cc))

last_week_named : (text : List ℕ) (today f l : ℕ) → IsDay today → text ≡ codes "lastweek" → week_from (monday_of today - 7) ≡ Some (f, l) → Found text today f l
last_week_named text today f l h e found =
    chosen (nat_le 1 (monday_of today - 7) && nat_le (monday_of today - 7 + 6) 3_652_059) _ _ _ found
    (λ fits is.
    let low : 1 ≤ monday_of today - 7 = grind (arith, nat_tests) in
    let eve = monday_of today - 1 in
    let here : IsDay eve = (omega (arith, low), omega (arith, h)) in
    let there : IsDay (eve + 1) = (omega (arith, low), omega (arith, h, low)) in
    let monday : monday_of eve ≡ monday_of today - 7 = omega (arith, low, h) in
    let is_eve : IsEve (own OneWeek today) eve = (
      here,
      there,
      λ same. absurd (let one = (weeks_have_mondays eve today here h).0 same in omega (arith, one, monday, low)),
      (weeks_have_mondays (eve + 1) today there h).1 (omega (arith, low, h)),
    ) in
    (own OneWeek eve, ByLast OneWeek eve e is_eve refl, week_is (monday_of today - 7) eve f l here monday found))
    (λ no is. absurd (cc))

this_month_named : (text : List ℕ) (today f l : ℕ) → IsDay today → text ≡ codes "thismonth" → months_from (this_month today) 1 ≡ Some (f, l) → Found text today f l
this_month_named text today f l h e found =
    let t = month_bounds today h in
    (own OneMonth today, ByThis OneMonth e refl, month_is_months (year_of today) (month_of today) f l (omega (arith, t.3)) (omega (arith, t.3)) (months_are (this_month today) 1 f l (omega arith) found))

last_month_named : (text : List ℕ) (today f l : ℕ) → IsDay today → text ≡ codes "lastmonth" → months_from (this_month today - 1) 1 ≡ Some (f, l) → Found text today f l
last_month_named text today f l h e found =
    let a = months_are (this_month today - 1) 1 f l (omega arith) found in
    let before = before_month today h (omega (arith, a.low)) in
    let eve = before.0 in
    let t = month_bounds eve before.1.0 in
    (own OneMonth eve, ByLast OneMonth eve e before.1 refl, month_is_months (year_of eve) (month_of eve) f l (omega (arith, t.3)) (omega (arith, t.3)) (subst (λ k. AreMonths k 1 f l) (sym before.2) a))

last_year_named : (text : List ℕ) (today f l : ℕ) → IsDay today → text ≡ codes "lastyear" → year_block (year_of today - 1) ≡ Some (f, l) → Found text today f l
last_year_named text today f l h e found =
    let a = months_are (12 * (year_of today - 1)) 12 f l (omega arith) found in
    let before = before_year today h (omega (arith, a.low)) in
    let eve = before.0 in
    (own OneYear eve, ByLast OneYear eve e before.1 refl, span_is (YearBlock (year_of eve)) f l (ap year_block (eve_year today eve h before.1) ∙ found))

abbrev Spelled : List ℕ → ℕ → ℕ → Type 0
Spelled text first last = (block : Block) × IsSpelled block text × HasDays block first last

is_code : (b c : ℕ) → (b == c) ≡ true → b ≡ c
is_code b c e = grind (arith, nat_tests)

part_named : (a b c d dash m n y f l : ℕ) → four_digits a b c d ≡ Some y → dash ≡ 45 → part_of_year y m n ≡ Some (f, l) → Spelled (a ∷ b ∷ c ∷ d ∷ dash ∷ m ∷ n ∷ []) f l
part_named a b c d dash m n y f l was minus found =
    let p = four_is a b c d y was in
    let whole = ap (λ years. years ++ dash ∷ m ∷ n ∷ []) p.1 in
    chosen (m == 81) _ _ _ found
    (λ is next. option_and_then_some (quarter_block y) (two_digits 48 n) (f, l) next (λ q had last.
    let r = two_is 48 n q had in
    let q_is : m ≡ 81 = is_code m 81 is in
    let few : q < 10 = omega (arith, r.high, r.few) in
    let low : n ≡ 48 + q = omega (arith, r.low, few) in
    (QuarterBlock y q, (p.0, few, whole ∙ rw (minus, q_is, low) refl), span_is (QuarterBlock y q) f l last)))
    (λ other next. option_and_then_some (month_block y) (two_digits m n) (f, l) next (λ k had last.
    let r = two_is m n k had in
    (MonthBlock y k, (p.0, r.few, whole ∙ rw (minus, r.high, r.low) refl), span_is (MonthBlock y k) f l last)))

week_named : (a b c d dash w m n f l : ℕ) → dated_block (a ∷ b ∷ c ∷ d ∷ dash ∷ w ∷ m ∷ n ∷ []) ≡ Some (f, l) → Spelled (a ∷ b ∷ c ∷ d ∷ dash ∷ w ∷ m ∷ n ∷ []) f l
week_named a b c d dash w m n f l found =
    chosen ((dash == 45) && (w == 87)) _ _ _ found
    (λ is next. option_and_then_some _ (four_digits a b c d) (f, l) next (λ y was last.
    option_and_then_some (week_block y) (two_digits m n) (f, l) last (λ k had end.
    let p = four_is a b c d y was in
    let r = two_is m n k had in
    let codes_are = both (dash == 45) (w == 87) is in
    (WeekBlock y k, (p.0, r.few, ap (λ years. years ++ dash ∷ w ∷ m ∷ n ∷ []) p.1 ∙ rw (is_code dash 45 codes_are.0, is_code w 87 codes_are.1, r.high, r.low) refl), span_is (WeekBlock y k) f l end))))
    (λ no next. absurd (cc))

text_of_parts : (n y m d : ℕ) → IsYearMonthDay y m d → n ≡ day_number y m d → parts_text y m d ≡ date_text n
text_of_parts n y m d real is =
    let parts = parts_are n y m d real is in
    sym (ap (λ k. parts_text k (month_of n) (month_day_of n)) parts.0 ∙ (ap (λ k. parts_text y k (month_day_of n)) parts.1 ∙ ap (parts_text y m) parts.2))

date_named : (text : List ℕ) (f l : ℕ) → option_and_then day_block (date_of text) ≡ Some (f, l) → Spelled text f l
date_named text f l found =
    option_and_then_some day_block (date_of text) (f, l) found (λ n was next.
    let p = date_is text n was in
    (DayBlock n, (subst IsDay (sym p.day_is) (number_holds p.year p.month p.month_day p.real), p.word_is ∙ text_of_parts n p.year p.month p.month_day p.real p.day_is), span_is (DayBlock n) f l next))

dated_named : (text : List ℕ) (f l : ℕ) → dated_block text ≡ Some (f, l) → Spelled text f l
dated_named [] f l e = date_named [] f l e
dated_named (a ∷ []) f l e = date_named (a ∷ []) f l e
dated_named (a ∷ b ∷ []) f l e = date_named (a ∷ b ∷ []) f l e
dated_named (a ∷ b ∷ c ∷ []) f l e = date_named (a ∷ b ∷ c ∷ []) f l e
dated_named (a ∷ b ∷ c ∷ d ∷ []) f l e =
    option_and_then_some year_block (four_digits a b c d) (f, l) e (λ y was next.
    (YearBlock y, four_is a b c d y was, span_is (YearBlock y) f l next))
dated_named (a ∷ b ∷ c ∷ d ∷ x ∷ []) f l e = date_named (a ∷ b ∷ c ∷ d ∷ x ∷ []) f l e
dated_named (a ∷ b ∷ c ∷ d ∷ x ∷ y ∷ []) f l e = date_named (a ∷ b ∷ c ∷ d ∷ x ∷ y ∷ []) f l e
dated_named (a ∷ b ∷ c ∷ d ∷ dash ∷ m ∷ n ∷ []) f l e =
    chosen (dash == 45) _ _ _ e
    (λ is next. option_and_then_some _ (four_digits a b c d) (f, l) next (λ y was last. part_named a b c d dash m n y f l was (is_code dash 45 is) last))
    (λ no next. absurd (cc))
dated_named (a ∷ b ∷ c ∷ d ∷ dash ∷ w ∷ m ∷ n ∷ []) f l e = week_named a b c d dash w m n f l e
dated_named (a ∷ b ∷ c ∷ d ∷ x ∷ y ∷ z ∷ u ∷ v ∷ rest) f l e = date_named (a ∷ b ∷ c ∷ d ∷ x ∷ y ∷ z ∷ u ∷ v ∷ rest) f l e

is_word : (text word : List ℕ) → bytes_eq text word ≡ true → text ≡ word
is_word text word e = (bytes_eq-Decides text word).0 e

named_of : (text : List ℕ) (today f l : ℕ) → IsDay today → block_of text today ≡ Some (f, l) → Found text today f l
named_of text today f l h e =
    chosen (bytes_eq text (codes "today")) _ _ _ e
    (λ is found. (DayBlock today, ByThis OneDay (is_word text _ is) refl, span_is (DayBlock today) f l found)) (λ no e.
    chosen (bytes_eq text (codes "yesterday")) _ _ _ e
    (λ is found. yesterday_named text today f l h (is_word text _ is) found) (λ no e.
    chosen (bytes_eq text (codes "thisweek")) _ _ _ e
    (λ is found. (own OneWeek today, ByThis OneWeek (is_word text _ is) refl, week_is (monday_of today) today f l h refl found)) (λ no e.
    chosen (bytes_eq text (codes "lastweek")) _ _ _ e
    (λ is found. last_week_named text today f l h (is_word text _ is) found) (λ no e.
    chosen (bytes_eq text (codes "thismonth")) _ _ _ e
    (λ is found. this_month_named text today f l h (is_word text _ is) found) (λ no e.
    chosen (bytes_eq text (codes "lastmonth")) _ _ _ e
    (λ is found. last_month_named text today f l h (is_word text _ is) found) (λ no e.
    chosen (bytes_eq text (codes "thisyear")) _ _ _ e
    (λ is found. (own OneYear today, ByThis OneYear (is_word text _ is) refl, span_is (YearBlock (year_of today)) f l found)) (λ no e.
    chosen (bytes_eq text (codes "lastyear")) _ _ _ e
    (λ is found. last_year_named text today f l h (is_word text _ is) found) (λ no found.
    let spelled = dated_named text f l found in
    (spelled.0, BySpelling spelled.1, spelled.2)))))))))

-- what is named is read

week_back : (day f l : ℕ) → IsDay day → HasDays (own OneWeek day) f l → week_from (monday_of day) ≡ Some (f, l)
week_back day f l h d =
    let monday = monday_of day in
    let here : IsDay monday = (omega (arith, h), omega (arith, h)) in
    let within = (d.are_those monday here).0 ((weeks_have_mondays monday day here h).1 (omega (arith, h))) in
    let first = (weeks_have_mondays f day d.first_is h).0 ((d.are_those f d.first_is).1 (omega arith, d.ordered)) in
    let same : monday ≡ f = omega (arith, within.0, first, d.first_is) in
    week_some monday here.0 (omega (arith, same, d.whole, d.last_is))
    ∙ (ap (λ k. Some (k, k + 6)) same ∙ ap (λ k. Some (f, k)) (sym d.whole))

month_back : (day f l : ℕ) → IsDay day → HasDays (own OneMonth day) f l → months_from (this_month day) 1 ≡ Some (f, l)
month_back day f l h d =
    let t = month_bounds day h in
    let m = month_of day in
    let low : 1 ≤ m = omega (arith, t.3) in
    let high : m ≤ 12 = omega (arith, t.3) in
    let fits : (nat_le 1 m && nat_le m 12) ≡ true = grind (arith, nat_tests) in
    sym (ap (λ c. if c then months_from (month_index (year_of day) m) 1 else None) fits) ∙ span_them (own OneMonth day) f l d

this_back : (length : Length) (today f l : ℕ) → IsDay today → HasDays (own length today) f l → block_of (this_word length) today ≡ Some (f, l)
this_back OneDay today f l h d = span_them (DayBlock today) f l d
this_back OneWeek today f l h d = week_back today f l h d
this_back OneMonth today f l h d = month_back today f l h d
this_back OneYear today f l h d = span_them (YearBlock (year_of today)) f l d

last_back : (length : Length) (today eve f l : ℕ) → IsDay today → IsEve (own length today) eve → HasDays (own length eve) f l → block_of (last_word length) today ≡ Some (f, l)
last_back OneDay today eve f l h e d = let same : today - 1 ≡ eve = omega (arith, e.3) in ap day_block same ∙ span_them (DayBlock eve) f l d
last_back OneWeek today eve f l h e d = ap week_from (sym (eve_week today eve h e)) ∙ week_back eve f l e.0 d
last_back OneMonth today eve f l h e d = ap (λ k. months_from k 1) (sym (eve_month today eve h e)) ∙ month_back eve f l e.0 d
last_back OneYear today eve f l h e d = ap year_block (sym (eve_year today eve h e)) ∙ span_them (YearBlock (year_of eve)) f l d

-- no word begins with a digit
no_word : (b : ℕ) (bs word : List ℕ) → b ≤ 57 → 58 ≤ get_or word 0 0 → bytes_eq (b ∷ bs) word ≡ false
no_word b bs word low high = elim (cases_Bool (bytes_eq (b ∷ bs) word)) [
  | inl same ↦ absurd (let first = ap (λ t. get_or t 0 0) (is_word (b ∷ bs) word same) in omega (arith, first, low, high))
  | inr other ↦ other
]

no_words : (b : ℕ) (bs : List ℕ) (today : ℕ) → b ≤ 57 → block_of (b ∷ bs) today ≡ dated_block (b ∷ bs)
no_words b bs today low =
    rw (no_word b bs (codes "today") low (omega arith), no_word b bs (codes "yesterday") low (omega arith), no_word b bs (codes "thisweek") low (omega arith), no_word b bs (codes "lastweek") low (omega arith), no_word b bs (codes "thismonth") low (omega arith), no_word b bs (codes "lastmonth") low (omega arith), no_word b bs (codes "thisyear") low (omega arith), no_word b bs (codes "lastyear") low (omega arith)) refl

letter_apart : (m : ℕ) → m < 100 → ((48 + m / 10) == 81) ≡ false
letter_apart m h = grind (arith, nat_tests)

one_digit : (q : ℕ) → q < 10 → two_digits 48 (48 + q) ≡ Some q
one_digit q h =
    let low : 48 + q ≡ 48 + q % 10 = omega (arith, h) in
    let high : 48 ≡ 48 + q / 10 = omega (arith, h) in
    ap (λ k. two_digits k (48 + q)) high ∙ (ap (two_digits (48 + q / 10)) low ∙ two_digits-two q (omega (arith, h)))

spelled_back : (block : Block) (text : List ℕ) (today f l : ℕ) → IsSpelled block text → HasDays block f l → block_of text today ≡ Some (f, l)
spelled_back (YearBlock y) text today f l s d =
    ap (λ t. block_of t today) s.1
    ∙ (no_words (48 + y / 100 / 10) (drop 1 (four y)) today (omega (arith, s.0))
    ∙ (ap (option_and_then year_block) (four_digits-four y s.0) ∙ span_them (YearBlock y) f l d))
spelled_back (MonthBlock y m) text today f l s d =
    ap (λ t. block_of t today) s.2
    ∙ (no_words (48 + y / 100 / 10) (drop 1 (four y ++ (codes "-" ++ two m))) today (omega (arith, s.0))
    ∙ (ap (option_and_then (λ k. part_of_year k (48 + m / 10) (48 + m % 10))) (four_digits-four y s.0)
    ∙ (ap (λ c. if c then option_and_then (quarter_block y) (two_digits 48 (48 + m % 10)) else option_and_then (month_block y) (two_digits (48 + m / 10) (48 + m % 10))) (letter_apart m s.1)
    ∙ (ap (option_and_then (month_block y)) (two_digits-two m s.1) ∙ span_them (MonthBlock y m) f l d))))
spelled_back (QuarterBlock y q) text today f l s d =
    ap (λ t. block_of t today) s.2
    ∙ (no_words (48 + y / 100 / 10) (drop 1 (four y ++ (codes "-Q" ++ (48 + q) ∷ []))) today (omega (arith, s.0))
    ∙ (ap (option_and_then (λ k. part_of_year k 81 (48 + q))) (four_digits-four y s.0)
    ∙ (ap (option_and_then (quarter_block y)) (one_digit q s.1) ∙ span_them (QuarterBlock y q) f l d)))
spelled_back (WeekBlock y w) text today f l s d =
    ap (λ t. block_of t today) s.2
    ∙ (no_words (48 + y / 100 / 10) (drop 1 (four y ++ (codes "-W" ++ two w))) today (omega (arith, s.0))
    ∙ (ap (option_and_then (λ k. option_and_then (week_block k) (two_digits (48 + w / 10) (48 + w % 10)))) (four_digits-four y s.0)
    ∙ (ap (option_and_then (week_block y)) (two_digits-two w s.1) ∙ span_them (WeekBlock y w) f l d)))
spelled_back (DayBlock n) text today f l s d =
    let date = date_holds n s.0 in
    ap (λ t. block_of t today) s.1
    ∙ (no_words (48 + year_of n / 100 / 10) (drop 1 (date_text n)) today (omega (arith, date.0.0))
    ∙ (ap (option_and_then day_block) (date_of-parts_text (year_of n) (month_of n) (month_day_of n) date.0 ∙ ap Some (sym date.1)) ∙ span_them (DayBlock n) f l d))

named_back : (text : List ℕ) (today f l : ℕ) (block : Block) → IsDay today → Names text today block → HasDays block f l → block_of text today ≡ Some (f, l)
named_back text today f l block h (ByThis length e is) d =
    ap (λ t. block_of t today) e ∙ this_back length today f l h (subst (λ b. HasDays b f l) is d)
named_back text today f l block h (ByLast length eve e before is) d =
    ap (λ t. block_of t today) e ∙ last_back length today eve f l h before (subst (λ b. HasDays b f l) is d)
named_back text today f l block h (BySpelling s) d = spelled_back block text today f l s d

pub blocks_are_named : BlocksAreNamed
blocks_are_named text today f l h = (named_of text today f l h, λ found. named_back text today f l found.0 h found.1 found.2)
