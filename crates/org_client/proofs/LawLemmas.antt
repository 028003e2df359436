-- What comes next lies ahead, comes once, and is shown on its day.
use Rattle.std.proofs.Common.{◌≡◌, ℕ, zero, suc, ◌+◌, ◌*◌, ◌<◌, ◌≤◌, Bool, true, false, cond, inl, inr, ◌⊎◌, List, [], ◌∷◌, ◌++◌, length, refl, ap, subst, arith, not}
use Rattle.std.specs.Prelude.{Some, ◌&&◌, ◌||◌, ◌==◌, nat_lt, slice_get, fold}
use Rattle.std.specs.List.{All, list_any, range_with_len}
use Rattle.std.proofs.lemmas.Bool.{and_parts}
use Rattle.std.proofs.lemmas.Bool.Decides.{nat_tests}
use Rattle.org_agenda.specs.Days.{AgendaView, day_rows}
use Rattle.org_agenda.specs.Laws.{reminds}
use Rattle.org_agenda.specs.declared.row.Row.{Row}
use Rattle.org_cal.specs.declared.moment.Moment.{Moment}
use Rattle.org_cal.specs.declared.time_of_day.TheConstants.{MINUTES_PER_DAY}
use Rattle.org_client.specs.Laws.{AgendasShowNext, IsRowOf, LiesAhead, NextLiesAhead, StampsComeOnce}
use Rattle.org_client.specs.Next.{is_ahead, is_of, is_of_row, next_rows, starts_by, with_day, with_row}
use Rattle.org_client.specs.declared.next.Upcoming.{Upcoming}

abbrev pub Each : {X : Type 0} → (X → Type 0) → List X → Type 0
Each {X} P xs = (k : ℕ) (x : X) → slice_get xs k ≡ Some x → P x

pub snoc_get : {X : Type 0} (xs : List X) (u : X) (j : ℕ) (b : X) → slice_get (xs ++ u ∷ []) j ≡ Some b → (slice_get xs j ≡ Some b) ⊎ ((j ≡ length xs) × (u ≡ b))
snoc_get [] u zero b e = inr (refl, cc)
snoc_get [] u (suc j) b e = absurd cc
snoc_get (x ∷ xs) u zero b e = inl e
snoc_get (x ∷ xs) u (suc j) b e = elim (snoc_get xs u j b e) [ inl h ↦ inl h | inr h ↦ inr (ap suc h.0, h.1) ]

pub within : {X : Type 0} (xs : List X) (j : ℕ) (b : X) → slice_get xs j ≡ Some b → j < length xs
within [] j b e = absurd cc
within (x ∷ xs) zero b e = omega arith
within (x ∷ xs) (suc j) b e = let h = within xs j b e in omega (arith, h)

pub each_snoc : {X : Type 0} (P : X → Type 0) (xs : List X) (u : X) → Each P xs → P u → Each P (xs ++ u ∷ [])
each_snoc P xs u each own k x e = elim (snoc_get xs u k x e) [ inl h ↦ each k x h | inr h ↦ subst P h.1 own ]

each_all : {X : Type 0} (P : X → Type 0) (xs : List X) → Each P xs → All P xs
each_all P [] each k d lt = absurd (omega arith)
each_all P (x ∷ xs) each zero d lt = each 0 x refl
each_all P (x ∷ xs) each (suc k) d lt = each_all P xs (λ i y. each (suc i) y) k d (omega arith)

or_none : (a b : Bool) → (a || b) ≡ false → (a ≡ false) × (b ≡ false)
or_none true b e = absurd cc
or_none false b e = (refl, e)

none_any : {X : Type 0} (p : X → Bool) (xs : List X) (i : ℕ) (a : X) → list_any p xs ≡ false → slice_get xs i ≡ Some a → p a ≡ false
none_any p [] i a none e = absurd cc
none_any p (x ∷ xs) zero a none e = let same : x ≡ a = cc in subst (λ y. p y ≡ false) same (or_none (p x) (list_any p xs) none).0
none_any p (x ∷ xs) (suc i) a none e = none_any p xs i a (or_none (p x) (list_any p xs) none).1 e

-- no two are of one stamp
abbrev Once : List Upcoming → Type 0
Once next = (i j : ℕ) (a b : Upcoming) → i < j → slice_get next i ≡ Some a → slice_get next j ≡ Some b → is_of_row b.row a.row ≡ false

once_snoc : (next : List Upcoming) (u : Upcoming) → Once next → list_any (is_of u.row) next ≡ false → Once (next ++ u ∷ [])
once_snoc next u once none i j a b lt at bt = elim (snoc_get next u j b bt) [
  | inl h ↦ elim (snoc_get next u i a at) [
    | inl k ↦ once i j a b lt k h
    | inr k ↦ let low = within next j b h in absurd (omega (arith, low, k.0, lt))
  ]
  | inr h ↦ elim (snoc_get next u i a at) [
    | inl k ↦ subst (λ v. is_of_row v.row a.row ≡ false) h.1 (none_any (is_of u.row) next i a none k)
    | inr k ↦ absurd (omega (arith, h.0, k.0, lt))
  ]
]

pub not_true : (b : Bool) → not b ≡ true → b ≡ false
not_true true e = absurd cc
not_true false e = refl

module _ (now : Moment) (agenda : AgendaView) where
  -- ahead, on a day of the agenda, which shows it
  record Good (u : Upcoming) : Type 0 where
    ahead : is_ahead now u.day u.row ≡ true
    late : agenda.first ≤ u.day
    shown : IsRowOf agenda u

  record Kept (next : List Upcoming) : Type 0 where
    good : Each Good next
    once : Once next

  step : (day : ℕ) (next : List Upcoming) (row : Row) → agenda.first ≤ day → ((k : ℕ) × (slice_get (day_rows agenda.profile agenda.sources agenda.today day) k ≡ Some row)) → Kept next → Kept (with_row now day next row)
  step day next row low on kept = by (is_ahead now day row && not (list_any (is_of row) next)) refl
    where
      by : (b : Bool) → (is_ahead now day row && not (list_any (is_of row) next)) ≡ b → Kept (cond b (next ++ record { day = day; row = row } ∷ []) next)
      by true e =
          let parts = and_parts (is_ahead now day row) (not (list_any (is_of row) next)) e in
          record {
            good = each_snoc Good next (record { day = day; row = row }) kept.good (record { ahead = parts.0; late = low; shown = on });
            once = once_snoc next (record { day = day; row = row }) kept.once (not_true (list_any (is_of row) next) parts.1);
          }
      by false e = kept

  rows_kept : (day : ℕ) (rows : List Row) (next : List Upcoming) → agenda.first ≤ day →
      ((i : ℕ) (row : Row) → slice_get rows i ≡ Some row → (k : ℕ) × (slice_get (day_rows agenda.profile agenda.sources agenda.today day) k ≡ Some row)) → Kept next → Kept (fold (with_row now day) next rows)
  rows_kept day [] next low on kept = kept
  rows_kept day (row ∷ rows) next low on kept = rows_kept day rows (with_row now day next row) low (λ i r. on (suc i) r) (step day next row low (on 0 row refl) kept)

  days_kept : (first n : ℕ) (next : List Upcoming) → agenda.first ≤ first → Kept next → Kept (fold (with_day now agenda) next (range_with_len first n))
  days_kept first zero next low kept = kept
  days_kept first (suc n) next low kept =
      days_kept (first + 1) n (with_day now agenda next first) (omega arith)
      (rows_kept first (day_rows agenda.profile agenda.sources agenda.today first) next low (λ i row there. (i, there)) kept)

  all_kept : Kept (next_rows now agenda)
  all_kept = days_kept agenda.first agenda.count [] (omega arith) (record { good = λ k x e. absurd cc; once = λ i j a b lt at bt. absurd cc })

  test : (u : Upcoming) → is_ahead now u.day u.row ≡ true → (nat_lt now.day u.day || ((now.day == u.day) && starts_by now.minute u.row.start)) ≡ true
  test u ahead = (and_parts (not (reminds u.row.kind)) (nat_lt now.day u.day || ((now.day == u.day) && starts_by now.minute u.row.start)) ahead).1

  not_before : (u : Upcoming) → is_ahead now u.day u.row ≡ true → now.day ≤ u.day
  not_before u ahead = by (nat_lt now.day u.day) refl (test u ahead)
    where
      by : (b : Bool) → nat_lt now.day u.day ≡ b → (b || ((now.day == u.day) && starts_by now.minute u.row.start)) ≡ true → now.day ≤ u.day
      by true e on = let later : now.day < u.day = grind (arith, nat_tests, e) in omega (arith, later)
      by false e on =
          let same = (and_parts (now.day == u.day) (starts_by now.minute u.row.start) on).0 in
          let is : now.day ≡ u.day = grind (arith, nat_tests, same) in
          omega (arith, is)

  starts : (u : Upcoming) (start : ℕ) → now.minute < MINUTES_PER_DAY → is_ahead now u.day u.row ≡ true → u.row.start ≡ Some start → MINUTES_PER_DAY * now.day + now.minute ≤ MINUTES_PER_DAY * u.day + start
  starts u start small ahead is = by (nat_lt now.day u.day) refl (test u ahead)
    where
      by : (b : Bool) → nat_lt now.day u.day ≡ b → (b || ((now.day == u.day) && starts_by now.minute u.row.start)) ≡ true → MINUTES_PER_DAY * now.day + now.minute ≤ MINUTES_PER_DAY * u.day + start
      by true e on = let later : now.day < u.day = grind (arith, nat_tests, e) in omega (arith, later, small)
      by false e on =
          let parts = and_parts (now.day == u.day) (starts_by now.minute u.row.start) on in
          let own : starts_by now.minute (Some start) ≡ true = subst (λ o. starts_by now.minute o ≡ true) is parts.1 in
          let early : now.minute ≤ start = grind (arith, nat_tests, own) in
          let day = not_before u ahead in
          omega (arith, early, day)

pub next_lies_ahead : NextLiesAhead
next_lies_ahead now agenda small =
    each_all (LiesAhead now) (next_rows now agenda)
    (λ k u there.
    let good = (all_kept now agenda).good k u there in
    record { day = not_before now agenda u good.ahead; start = λ start is. starts now agenda u start small good.ahead is })

pub stamps_come_once : StampsComeOnce
stamps_come_once now agenda = (all_kept now agenda).once

pub agendas_show_next : AgendasShowNext
agendas_show_next now agenda = each_all (IsRowOf agenda) (next_rows now agenda) (λ k u there. ((all_kept now agenda).good k u there).shown)
