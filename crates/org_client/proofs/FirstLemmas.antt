-- The row that comes of a stamp is that of the first day that has one.
use Rattle.std.proofs.Common.{◌≡◌, ◌∙◌, ℕ, zero, suc, ◌+◌, ◌<◌, ◌≤◌, Bool, true, false, cond, List, [], ◌∷◌, ◌++◌, refl, sym, subst, arith, not}
use Rattle.std.specs.Prelude.{Some, ◌&&◌, ◌==◌, slice_get, fold}
use Rattle.std.specs.List.{list_any, range_with_len}
use Rattle.std.proofs.lemmas.Bool.{and_parts}
use Rattle.std.proofs.lemmas.Bool.Decides.{nat_tests}
use Rattle.org_agenda.specs.Days.{AgendaView, day_rows}
use Rattle.org_agenda.specs.declared.row.Row.{Row}
use Rattle.org_cal.specs.declared.moment.Moment.{Moment}
use Rattle.org_client.specs.Laws.{NextIsFirst}
use Rattle.org_client.specs.Next.{is_ahead, is_of, is_of_row, with_day, with_row}
use Rattle.org_client.specs.declared.next.Upcoming.{Upcoming}
use Rattle.org_client.proofs.LawLemmas.{Each, each_snoc, not_true}
use Rattle.org_client.proofs.MissedLemmas.{grows_day, met_day}

-- rows of one stamp are of the same stamps as others
same_stamp : (row other : Row) (next : List Upcoming) → is_of_row row other ≡ true → list_any (is_of other) next ≡ list_any (is_of row) next
same_stamp row other next e =
    let first = and_parts ((row.file == other.file) && (row.heading == other.heading)) (row.stamp_at == other.stamp_at) e in
    let two = and_parts (row.file == other.file) (row.heading == other.heading) first.0 in
    let f : row.file ≡ other.file = grind (arith, nat_tests, two.0) in
    let h : row.heading ≡ other.heading = grind (arith, nat_tests, two.1) in
    let s : row.stamp_at ≡ other.stamp_at = grind (arith, nat_tests, first.1) in
    sym (λ i. list_any (λ (u : Upcoming). (f i == u.row.file) && (h i == u.row.heading) && (s i == u.row.stamp_at)) next)

module _ (now : Moment) (agenda : AgendaView) (row : Row) (last : ℕ) where
  -- of the row's stamp none lies after the last day
  abbrev Early : Upcoming → Type 0
  Early u = is_of row u ≡ true → u.day ≤ last

  early_row : (day : ℕ) (next : List Upcoming) (one : Row) → day ≤ last → Each Early next → Each Early (with_row now day next one)
  early_row day next one low each = by (is_ahead now day one && not (list_any (is_of one) next))
    where
      by : (b : Bool) → Each Early (cond b (next ++ record { day = day; row = one } ∷ []) next)
      by true = each_snoc Early next (record { day = day; row = one }) each (λ is. low)
      by false = each

  early_rows : (day : ℕ) (rows : List Row) (next : List Upcoming) → day ≤ last → Each Early next → Each Early (fold (with_row now day) next rows)
  early_rows day [] next low each = each
  early_rows day (one ∷ rows) next low each = early_rows day rows (with_row now day next one) low (early_row day next one low each)

  -- where one of the stamp is there, no other comes
  there_row : (day : ℕ) (next : List Upcoming) (one : Row) → list_any (is_of row) next ≡ true → Each Early next → Each Early (with_row now day next one)
  there_row day next one there each = by (is_ahead now day one && not (list_any (is_of one) next)) refl
    where
      by : (b : Bool) → (is_ahead now day one && not (list_any (is_of one) next)) ≡ b → Each Early (cond b (next ++ record { day = day; row = one } ∷ []) next)
      by true e =
          let new = not_true (list_any (is_of one) next) (and_parts (is_ahead now day one) (not (list_any (is_of one) next)) e).1 in
          each_snoc Early next (record { day = day; row = one }) each
          (λ is. let both : true ≡ false = sym there ∙ sym (same_stamp row one next is) ∙ new in absurd cc)
      by false e = each

  there_rows : (day : ℕ) (rows : List Row) (next : List Upcoming) → list_any (is_of row) next ≡ true → Each Early next → Each Early (fold (with_row now day) next rows)
  there_rows day [] next there each = each
  there_rows day (one ∷ rows) next there each =
      there_rows day rows (with_row now day next one) (grows_day now agenda (is_of row) day (one ∷ []) next there) (there_row day next one there each)

  there_days : (first n : ℕ) (next : List Upcoming) → list_any (is_of row) next ≡ true → Each Early next → Each Early (fold (with_day now agenda) next (range_with_len first n))
  there_days first zero next there each = each
  there_days first (suc n) next there each =
      there_days (first + 1) n (with_day now agenda next first) (grows_day now agenda (is_of row) first (day_rows agenda.profile agenda.sources agenda.today first) next there)
      (there_rows first (day_rows agenda.profile agenda.sources agenda.today first) next there each)

  first_days : (first n a k : ℕ) (next : List Upcoming) → a < n → first + a ≡ last → slice_get (day_rows agenda.profile agenda.sources agenda.today last) k ≡ Some row → is_ahead now last row ≡ true →
      Each Early next → Each Early (fold (with_day now agenda) next (range_with_len first n))
  first_days first zero a k next lt on there ahead each = absurd (omega (arith, lt))
  first_days first (suc n) zero k next lt on there ahead each =
      let same : last ≡ first = omega (arith, on) in
      there_days (first + 1) n (with_day now agenda next first)
      (met_day now agenda first k (day_rows agenda.profile agenda.sources agenda.today first) next row
      (subst (λ d. slice_get (day_rows agenda.profile agenda.sources agenda.today d) k ≡ Some row) same there) (subst (λ d. is_ahead now d row ≡ true) same ahead))
      (early_rows first (day_rows agenda.profile agenda.sources agenda.today first) next (omega (arith, on)) each)
  first_days first (suc n) (suc a) k next lt on there ahead each =
      first_days (first + 1) n a k (with_day now agenda next first) (omega (arith, lt)) (omega (arith, on)) there ahead
      (early_rows first (day_rows agenda.profile agenda.sources agenda.today first) next (omega (arith, on)) each)

pub next_is_first : NextIsFirst
next_is_first now agenda a k i row u lt there ahead at =
    first_days now agenda row (agenda.first + a) agenda.first agenda.count a k [] lt refl there ahead (λ j v e. absurd cc) i u at
