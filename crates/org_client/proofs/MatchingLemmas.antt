-- Rows whose headings pass a test are those of all rows, in the same order.
use Rattle.std.proofs.Common.{◌≡◌, ◌∙◌, ℕ, zero, suc, Bool, true, false, cond, List, [], ◌∷◌, ◌++◌, map, refl, sym, ap, arith, not, append-nil}
use Rattle.std.specs.Prelude.{◌&&◌, ◌||◌, ◌==◌, filter, fold}
use Rattle.std.specs.List.{flat_map, list_any, range_with_len}
use Rattle.std.proofs.lemmas.Bool.{and_parts}
use Rattle.std.proofs.lemmas.Bool.Decides.{nat_tests}
use Rattle.std.proofs.lemmas.List.Elements.{filter-append}
use Rattle.org_agenda.specs.Days.{AgendaView, by_start, day_rows, is_shown, kind_rows, role_rows, source_rows, stamp_row, started}
use Rattle.org_agenda.specs.Lists.{Ranked, in_order}
use Rattle.org_agenda.specs.Order.{at_key, by_key}
use Rattle.org_agenda.specs.declared.days.TheConstants.{STARTS}
use Rattle.org_agenda.specs.declared.lists.TheConstants.{PRIORITIES}
use Rattle.org_agenda.specs.declared.row.Row.{Row}
use Rattle.org_agenda.specs.declared.row.RowKind.{RowKind}
use Rattle.org_agenda.specs.declared.row.RowKind.TheVariants.{OnDay, InRange, OnSchedule, LateSchedule, OnDeadline, Warning, LateDeadline}
use Rattle.org_agenda.specs.declared.source.HeadingStamp.{HeadingStamp}
use Rattle.org_base.specs.declared.profile.Profile.{Profile}
use Rattle.org_cal.specs.declared.moment.Moment.{Moment}
use Rattle.org_client.specs.Matching.{meets, meets_all, of_row, of_stamp, of_upcoming}
use Rattle.org_client.specs.MatchingLaws.{DaysAreFiltered, MatchingMeetsAll, NextIsFiltered, over}
use Rattle.org_client.specs.Next.{is_ahead, is_of, is_of_row, with_day, with_row}
use Rattle.org_client.specs.declared.next.Upcoming.{Upcoming}
use Rattle.org_entry.specs.declared.active.Role.{Role}
use Rattle.org_entry.specs.declared.active.Role.TheVariants.{Plain, Scheduled, Deadline}

-- filters of lists

pub filter_of_map : {X Y : Type 0} (p : Y → Bool) (f : X → Y) (xs : List X) → filter p (map f xs) ≡ map f (filter (λ x. p (f x)) xs)
filter_of_map p f [] = refl
filter_of_map p f (x ∷ xs) = by (p (f x)) (filter_of_map p f xs)
  where
    by : (b : Bool) → filter p (map f xs) ≡ map f (filter (λ x. p (f x)) xs) → cond b (f x ∷ filter p (map f xs)) (filter p (map f xs)) ≡ map f (cond b (x ∷ filter (λ x. p (f x)) xs) (filter (λ x. p (f x)) xs))
    by true h = ap (λ ys. f x ∷ ys) h
    by false h = h

filter_swap : {X : Type 0} (p q : X → Bool) (xs : List X) → filter p (filter q xs) ≡ filter q (filter p xs)
filter_swap p q [] = refl
filter_swap p q (x ∷ xs) = by (p x) (q x) refl refl (filter_swap p q xs)
  where
    by : (a b : Bool) → p x ≡ a → q x ≡ b → filter p (filter q xs) ≡ filter q (filter p xs) → filter p (cond b (x ∷ filter q xs) (filter q xs)) ≡ filter q (cond a (x ∷ filter p xs) (filter p xs))
    by true true e f h =
        ap (λ c. cond c (x ∷ filter p (filter q xs)) (filter p (filter q xs))) e
        ∙ (ap (λ ys. x ∷ ys) h ∙ sym (ap (λ c. cond c (x ∷ filter q (filter p xs)) (filter q (filter p xs))) f))
    by true false e f h = h ∙ sym (ap (λ c. cond c (x ∷ filter q (filter p xs)) (filter q (filter p xs))) f)
    by false true e f h = ap (λ c. cond c (x ∷ filter p (filter q xs)) (filter p (filter q xs))) e ∙ h
    by false false e f h = h

-- one test after another is both
filter_twice : {X : Type 0} (p q : X → Bool) (xs : List X) → filter q (filter p xs) ≡ filter (λ x. p x && q x) xs
filter_twice p q [] = refl
filter_twice p q (x ∷ xs) = by (p x) (filter_twice p q xs)
  where
    by : (a : Bool) → filter q (filter p xs) ≡ filter (λ x. p x && q x) xs → filter q (cond a (x ∷ filter p xs) (filter p xs)) ≡ cond (a && q x) (x ∷ filter (λ x. p x && q x) xs) (filter (λ x. p x && q x) xs)
    by true h = ap (λ ys. cond (q x) (x ∷ ys) ys) h
    by false h = h

filter_all : {X : Type 0} (xs : List X) → xs ≡ filter (λ x. true) xs
filter_all [] = refl
filter_all (x ∷ xs) = ap (λ ys. x ∷ ys) (filter_all xs)

pub filter_by_key : {X : Type 0} (p : X → Bool) (key : X → ℕ) (n : ℕ) (xs : List X) → filter p (by_key key n xs) ≡ by_key key n (filter p xs)
unfolding by_key
filter_by_key p key zero xs = refl
filter_by_key p key (suc n) xs =
    filter-append p (by_key key n xs) (at_key key n xs)
    ∙ (ap (λ ys. ys ++ filter p (at_key key n xs)) (filter_by_key p key n xs)
    ∙ ap (λ ys. by_key key n (filter p xs) ++ ys) (filter_swap p (λ x. key x == n) xs))

pub order_filtered : (P : Row → Bool) (rows : List Ranked) → filter P (in_order rows) ≡ in_order (filter (λ (r : Ranked). P r.row) rows)
order_filtered P rows =
    filter_of_map P (λ (r : Ranked). r.row) (by_key (λ (r : Ranked). r.priority) PRIORITIES rows)
    ∙ ap (map (λ (r : Ranked). r.row)) (filter_by_key (λ (r : Ranked). P r.row) (λ (r : Ranked). r.priority) PRIORITIES rows)

pub starts_filtered : (P : Row → Bool) (rows : List Row) → filter P (by_start rows) ≡ by_start (filter P rows)
starts_filtered P rows =
    filter_of_map P (λ (r : Ranked). r.row) (by_key (λ (r : Ranked). r.priority) STARTS (map started rows))
    ∙ ap (map (λ (r : Ranked). r.row))
    (filter_by_key (λ (r : Ranked). P r.row) (λ (r : Ranked). r.priority) STARTS (map started rows)
    ∙ ap (by_key (λ (r : Ranked). r.priority) STARTS) (filter_of_map (λ (r : Ranked). P r.row) started rows))

-- all of a list, or nothing
both_or_none : {X : Type 0} (b : Bool) (xs ys : List X) → cond b xs [] ++ cond b ys [] ≡ cond b (xs ++ ys) []
both_or_none true xs ys = refl
both_or_none false xs ys = refl

nothing : {X : Type 0} (b : Bool) → ◌≡◌ {A = List X} [] (cond b [] [])
nothing true = refl
nothing false = refl

module _ (holds : ℕ → ℕ → Bool) (p : Profile) (today day : ℕ) (s : HeadingStamp) where
  abbrev wanted : Ranked → Bool
  wanted ranked = of_row holds ranked.row

  kind_filtered : (kind : RowKind) → filter wanted (kind_rows p kind s today day) ≡ cond (of_stamp holds s) (kind_rows p kind s today day) []
  kind_filtered kind = by (is_shown p kind s today day)
    where
      row : Ranked
      row = record { priority = s.owner.priority; row = stamp_row p kind s day }

      by : (b : Bool) → filter wanted (cond b (row ∷ []) []) ≡ cond (of_stamp holds s) (cond b (row ∷ []) []) []
      by true = refl
      by false = nothing (of_stamp holds s)

  joined : (xs ys : List Ranked) → filter wanted xs ≡ cond (of_stamp holds s) xs [] → filter wanted ys ≡ cond (of_stamp holds s) ys [] → filter wanted (xs ++ ys) ≡ cond (of_stamp holds s) (xs ++ ys) []
  joined xs ys one two =
      filter-append wanted xs ys
      ∙ (ap (λ zs. zs ++ filter wanted ys) one ∙ (ap (λ zs. cond (of_stamp holds s) xs [] ++ zs) two ∙ both_or_none (of_stamp holds s) xs ys))

  role_filtered : (role : Role) → filter wanted (role_rows p role s today day) ≡ cond (of_stamp holds s) (role_rows p role s today day) []
  role_filtered Plain = joined (kind_rows p OnDay s today day) (kind_rows p InRange s today day) (kind_filtered OnDay) (kind_filtered InRange)
  role_filtered Scheduled = joined (kind_rows p OnSchedule s today day) (kind_rows p LateSchedule s today day) (kind_filtered OnSchedule) (kind_filtered LateSchedule)
  role_filtered Deadline =
      joined (kind_rows p OnDeadline s today day) (kind_rows p Warning s today day ++ kind_rows p LateDeadline s today day) (kind_filtered OnDeadline)
      (joined (kind_rows p Warning s today day) (kind_rows p LateDeadline s today day) (kind_filtered Warning) (kind_filtered LateDeadline))

  source_filtered : filter wanted (source_rows p today day s) ≡ cond (of_stamp holds s) (source_rows p today day s) []
  unfolding source_rows
  source_filtered = role_filtered s.role

module _ (holds : ℕ → ℕ → Bool) (p : Profile) (today day : ℕ) where
  abbrev ranked_of : Ranked → Bool
  ranked_of ranked = of_row holds ranked.row

  sources_filtered : (stamps : List HeadingStamp) → filter ranked_of (flat_map (source_rows p today day) stamps) ≡ flat_map (source_rows p today day) (filter (of_stamp holds) stamps)
  sources_filtered [] = refl
  sources_filtered (s ∷ stamps) =
      filter-append ranked_of (source_rows p today day s) (flat_map (source_rows p today day) stamps)
      ∙ (ap (λ rows. rows ++ filter ranked_of (flat_map (source_rows p today day) stamps)) (source_filtered holds p today day s)
      ∙ (ap (λ rows. cond (of_stamp holds s) (source_rows p today day s) [] ++ rows) (sources_filtered stamps) ∙ by (of_stamp holds s)))
    where
      by : (b : Bool) → cond b (source_rows p today day s) [] ++ flat_map (source_rows p today day) (filter (of_stamp holds) stamps) ≡ flat_map (source_rows p today day) (cond b (s ∷ filter (of_stamp holds) stamps) (filter (of_stamp holds) stamps))
      by true = refl
      by false = refl

  day_filtered : (stamps : List HeadingStamp) → filter (of_row holds) (day_rows p stamps today day) ≡ day_rows p (filter (of_stamp holds) stamps) today day
  unfolding day_rows
  day_filtered stamps =
      starts_filtered (of_row holds) (in_order (flat_map (source_rows p today day) stamps))
      ∙ ap by_start (order_filtered (of_row holds) (flat_map (source_rows p today day) stamps) ∙ ap in_order (sources_filtered stamps))

pub days_are_filtered : DaysAreFiltered
days_are_filtered holds p stamps today day = sym (day_filtered holds p today day stamps)

-- what comes next

module _ (holds : ℕ → ℕ → Bool) (now : Moment) where
  -- rows of one stamp are of one heading
  same_heading : (row other : Row) → is_of_row row other ≡ true → of_row holds row ≡ of_row holds other
  same_heading row other e =
      let first = and_parts ((row.file == other.file) && (row.heading == other.heading)) (row.stamp_at == other.stamp_at) e in
      let two = and_parts (row.file == other.file) (row.heading == other.heading) first.0 in
      let f : row.file ≡ other.file = grind (arith, nat_tests, two.0) in
      let h : row.heading ≡ other.heading = grind (arith, nat_tests, two.1) in
      (λ i. holds (f i) (h i))

  keeps_any : (row : Row) (next : List Upcoming) → of_row holds row ≡ true → list_any (is_of row) (filter (of_upcoming holds) next) ≡ list_any (is_of row) next
  keeps_any row [] e = refl
  keeps_any row (u ∷ us) e = by (of_upcoming holds u) (is_of row u) refl refl (keeps_any row us e)
    where
      by : (a b : Bool) → of_upcoming holds u ≡ a → is_of row u ≡ b → list_any (is_of row) (filter (of_upcoming holds) us) ≡ list_any (is_of row) us →
          list_any (is_of row) (cond a (u ∷ filter (of_upcoming holds) us) (filter (of_upcoming holds) us)) ≡ (b || list_any (is_of row) us)
      by true b f g h = ap (λ c. c || list_any (is_of row) (filter (of_upcoming holds) us)) g ∙ ap (λ c. b || c) h
      by false true f g h = let both : true ≡ false = sym e ∙ (same_heading row u.row g ∙ f) in absurd cc
      by false false f g h = h

  row_more : (day : ℕ) (next : List Upcoming) (row : Row) → of_row holds row ≡ true → with_row now day (filter (of_upcoming holds) next) row ≡ filter (of_upcoming holds) (with_row now day next row)
  row_more day next row e =
      ap (λ b. cond (is_ahead now day row && not b) (filter (of_upcoming holds) next ++ u ∷ []) (filter (of_upcoming holds) next)) (keeps_any row next e)
      ∙ by (is_ahead now day row && not (list_any (is_of row) next))
    where
      u : Upcoming
      u = record { day = day; row = row }

      by : (b : Bool) → cond b (filter (of_upcoming holds) next ++ u ∷ []) (filter (of_upcoming holds) next) ≡ filter (of_upcoming holds) (cond b (next ++ u ∷ []) next)
      by true = sym (filter-append (of_upcoming holds) next (u ∷ []) ∙ ap (λ c. filter (of_upcoming holds) next ++ cond c (u ∷ []) []) e)
      by false = refl

  row_less : (day : ℕ) (next : List Upcoming) (row : Row) → of_row holds row ≡ false → filter (of_upcoming holds) next ≡ filter (of_upcoming holds) (with_row now day next row)
  row_less day next row e = by (is_ahead now day row && not (list_any (is_of row) next))
    where
      u : Upcoming
      u = record { day = day; row = row }

      by : (b : Bool) → filter (of_upcoming holds) next ≡ filter (of_upcoming holds) (cond b (next ++ u ∷ []) next)
      by true =
          sym (filter-append (of_upcoming holds) next (u ∷ [])
          ∙ (ap (λ c. filter (of_upcoming holds) next ++ cond c (u ∷ []) []) e ∙ append-nil (filter (of_upcoming holds) next)))
      by false = refl

  rows_filtered : (day : ℕ) (rows : List Row) (next : List Upcoming) → fold (with_row now day) (filter (of_upcoming holds) next) (filter (of_row holds) rows) ≡ filter (of_upcoming holds) (fold (with_row now day) next rows)
  rows_filtered day [] next = refl
  rows_filtered day (row ∷ rows) next = by (of_row holds row) refl (rows_filtered day rows (with_row now day next row))
    where
      by : (b : Bool) → of_row holds row ≡ b →
          fold (with_row now day) (filter (of_upcoming holds) (with_row now day next row)) (filter (of_row holds) rows) ≡ filter (of_upcoming holds) (fold (with_row now day) (with_row now day next row) rows) →
          fold (with_row now day) (filter (of_upcoming holds) next) (cond b (row ∷ filter (of_row holds) rows) (filter (of_row holds) rows)) ≡ filter (of_upcoming holds) (fold (with_row now day) (with_row now day next row) rows)
      by true e rest = ap (λ some. fold (with_row now day) some (filter (of_row holds) rows)) (row_more day next row e) ∙ rest
      by false e rest = ap (λ some. fold (with_row now day) some (filter (of_row holds) rows)) (row_less day next row e) ∙ rest

  days_filtered : (agenda : AgendaView) (days : List ℕ) (next : List Upcoming) → fold (with_day now (over agenda (filter (of_stamp holds) agenda.sources))) (filter (of_upcoming holds) next) days ≡ filter (of_upcoming holds) (fold (with_day now agenda) next days)
  days_filtered agenda [] next = refl
  days_filtered agenda (day ∷ days) next =
      ap (λ some. fold (with_day now (over agenda (filter (of_stamp holds) agenda.sources))) some days)
      (ap (λ rows. fold (with_row now day) (filter (of_upcoming holds) next) rows) (days_are_filtered holds agenda.profile agenda.sources agenda.today day)
      ∙ rows_filtered day (day_rows agenda.profile agenda.sources agenda.today day) next)
      ∙ days_filtered agenda days (with_day now agenda next day)

pub next_is_filtered : NextIsFiltered
next_is_filtered holds now agenda = days_filtered holds now agenda (range_with_len agenda.first agenda.count) []

-- several expressions

pub matching_meets_all : MatchingMeetsAll
matching_meets_all [] moment scopes stamps = filter_all stamps
matching_meets_all (expr ∷ exprs) moment scopes stamps =
    matching_meets_all exprs moment scopes (filter (of_stamp (meets expr moment scopes)) stamps)
    ∙ filter_twice (of_stamp (meets expr moment scopes)) (of_stamp (meets_all exprs moment scopes)) stamps
