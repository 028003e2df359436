-- No stamp with a row that is ahead is missed.
use Rattle.std.proofs.Common.{◌≡◌, ℕ, zero, suc, ◌+◌, ◌<◌, Bool, true, false, cond, List, [], ◌∷◌, ◌++◌, refl, sym, ap, subst, arith, not, eq-eqb}
use Rattle.std.specs.Prelude.{Some, ◌&&◌, ◌||◌, slice_get, fold}
use Rattle.std.specs.List.{list_any, range_with_len}
use Rattle.org_agenda.specs.Days.{AgendaView, day_rows}
use Rattle.org_agenda.specs.declared.row.Row.{Row}
use Rattle.org_cal.specs.declared.moment.Moment.{Moment}
use Rattle.org_client.specs.Laws.{NoStampIsMissed}
use Rattle.org_client.specs.Next.{is_ahead, is_of, is_of_row, with_day, with_row}
use Rattle.org_client.specs.declared.next.Upcoming.{Upcoming}

more_any : {X : Type 0} (p : X → Bool) (xs ys : List X) → list_any p xs ≡ true → list_any p (xs ++ ys) ≡ true
more_any p [] ys h = absurd cc
more_any p (x ∷ xs) ys h = by (p x) h (more_any p xs ys)
  where
    by : (b : Bool) → (b || list_any p xs) ≡ true → (list_any p xs ≡ true → list_any p (xs ++ ys) ≡ true) → (b || list_any p (xs ++ ys)) ≡ true
    by true e more = refl
    by false e more = more e

last_any : {X : Type 0} (p : X → Bool) (xs : List X) (x : X) → p x ≡ true → list_any p (xs ++ x ∷ []) ≡ true
last_any p [] x h = ap (λ b. b || false) h
last_any p (y ∷ ys) x h = by (p y) (last_any p ys x h)
  where
    by : (b : Bool) → list_any p (ys ++ x ∷ []) ≡ true → (b || list_any p (ys ++ x ∷ [])) ≡ true
    by true last = refl
    by false last = last

own : (row : Row) → is_of_row row row ≡ true
own row =
    let f = eq-eqb row.file row.file refl in
    let h = eq-eqb row.heading row.heading refl in
    let s = eq-eqb row.stamp_at row.stamp_at refl in
    (λ i. (f i && h i) && s i)

module _ (now : Moment) (agenda : AgendaView) where
  -- what is there stays
  grows_row : (p : Upcoming → Bool) (day : ℕ) (next : List Upcoming) (row : Row) → list_any p next ≡ true → list_any p (with_row now day next row) ≡ true
  grows_row p day next row h = by (is_ahead now day row && not (list_any (is_of row) next))
    where
      by : (b : Bool) → list_any p (cond b (next ++ record { day = day; row = row } ∷ []) next) ≡ true
      by true = more_any p next (record { day = day; row = row } ∷ []) h
      by false = h

  grows_rows : (p : Upcoming → Bool) (day : ℕ) (rows : List Row) (next : List Upcoming) → list_any p next ≡ true → list_any p (fold (with_row now day) next rows) ≡ true
  grows_rows p day [] next h = h
  grows_rows p day (row ∷ rows) next h = grows_rows p day rows (with_row now day next row) (grows_row p day next row h)

  grows_days : (p : Upcoming → Bool) (first n : ℕ) (next : List Upcoming) → list_any p next ≡ true → list_any p (fold (with_day now agenda) next (range_with_len first n)) ≡ true
  grows_days p first zero next h = h
  grows_days p first (suc n) next h =
      grows_days p (first + 1) n (with_day now agenda next first) (grows_rows p first (day_rows agenda.profile agenda.sources agenda.today first) next h)

  -- a row that is ahead is there, or another of its stamp
  met : (day : ℕ) (next : List Upcoming) (row : Row) → is_ahead now day row ≡ true → list_any (is_of row) (with_row now day next row) ≡ true
  met day next row ahead = by (list_any (is_of row) next) refl
    where
      by : (b : Bool) → list_any (is_of row) next ≡ b → list_any (is_of row) (with_row now day next row) ≡ true
      by true e = grows_row (is_of row) day next row e
      by false e =
          let test : (is_ahead now day row && not (list_any (is_of row) next)) ≡ true = (λ i. ahead i && not (e i)) in
          subst (λ b. list_any (is_of row) (cond b (next ++ record { day = day; row = row } ∷ []) next) ≡ true) (sym test)
          (last_any (is_of row) next (record { day = day; row = row }) (own row))

  met_rows : (day k : ℕ) (rows : List Row) (next : List Upcoming) (row : Row) → slice_get rows k ≡ Some row → is_ahead now day row ≡ true → list_any (is_of row) (fold (with_row now day) next rows) ≡ true
  met_rows day k [] next row there ahead = absurd cc
  met_rows day zero (r ∷ rows) next row there ahead =
      let same : r ≡ row = cc in
      grows_rows (is_of row) day rows (with_row now day next r) (subst (λ x. list_any (is_of row) (with_row now day next x) ≡ true) (sym same) (met day next row ahead))
  met_rows day (suc k) (r ∷ rows) next row there ahead = met_rows day k rows (with_row now day next r) row there ahead

  met_days : (first n a k : ℕ) (next : List Upcoming) (row : Row) → a < n → slice_get (day_rows agenda.profile agenda.sources agenda.today (first + a)) k ≡ Some row →
      is_ahead now (first + a) row ≡ true → list_any (is_of row) (fold (with_day now agenda) next (range_with_len first n)) ≡ true
  met_days first zero a k next row lt there ahead = absurd (omega (arith, lt))
  met_days first (suc n) zero k next row lt there ahead =
      let own_day : first + 0 ≡ first = omega arith in
      grows_days (is_of row) (first + 1) n (with_day now agenda next first)
      (met_rows first k (day_rows agenda.profile agenda.sources agenda.today first) next row
      (subst (λ d. slice_get (day_rows agenda.profile agenda.sources agenda.today d) k ≡ Some row) own_day there) (subst (λ d. is_ahead now d row ≡ true) own_day ahead))
  met_days first (suc n) (suc a) k next row lt there ahead =
      let later : first + suc a ≡ first + 1 + a = omega arith in
      met_days (first + 1) n a k (with_day now agenda next first) row (omega (arith, lt))
      (subst (λ d. slice_get (day_rows agenda.profile agenda.sources agenda.today d) k ≡ Some row) later there) (subst (λ d. is_ahead now d row ≡ true) later ahead)

pub grows_day : (now : Moment) (agenda : AgendaView) (p : Upcoming → Bool) (day : ℕ) (rows : List Row) (next : List Upcoming) → list_any p next ≡ true → list_any p (fold (with_row now day) next rows) ≡ true
grows_day now agenda = grows_rows now agenda

pub met_day : (now : Moment) (agenda : AgendaView) (day k : ℕ) (rows : List Row) (next : List Upcoming) (row : Row) → slice_get rows k ≡ Some row → is_ahead now day row ≡ true → list_any (is_of row) (fold (with_row now day) next rows) ≡ true
met_day now agenda = met_rows now agenda

pub no_stamp_is_missed : NoStampIsMissed
no_stamp_is_missed now agenda a k row lt there ahead = met_days now agenda agenda.first agenda.count a k [] row lt there ahead
