-- What is told from one moment to a third is what is told from it to a second, and then from there on.
use Rattle.std.proofs.Common.{◌≡◌, ◌∙◌, ℕ, zero, suc, ◌+◌, ◌-◌, ◌<◌, ◌≤◌, Bool, true, false, cond, List, [], ◌∷◌, ◌++◌, map, inl, inr, refl, sym, ap, arith, not, append_assoc, append-nil}
use Rattle.std.specs.Prelude.{◌&&◌, ◌||◌, Option, Some, None, filter, slice_get}
use Rattle.std.specs.List.{All, flat_map, range_with_len}
use Rattle.std.proofs.lemmas.Bool.Decides.{nat_tests}
use Rattle.std.proofs.lemmas.Grind.{flat_map-append}
use Rattle.std.proofs.lemmas.List.Elements.{filter-append}
use Rattle.org_agenda.specs.Days.{day_rows, is_shown, kind_rows, role_rows, source_rows, stamp_row, by_start}
use Rattle.org_agenda.specs.Kept.{IsReal, MayStandBefore}
use Rattle.org_agenda.specs.Lists.{Ranked, in_order}
use Rattle.org_agenda.specs.declared.row.Row.{Row}
use Rattle.org_agenda.specs.declared.row.RowKind.{RowKind}
use Rattle.org_agenda.specs.declared.row.RowKind.TheVariants.{OnSchedule, LateSchedule, OnDeadline, Warning, LateDeadline}
use Rattle.org_agenda.specs.declared.source.HeadingStamp.{HeadingStamp}
use Rattle.org_agenda.proofs.KeptLemmas.{starts_rise}
use Rattle.org_base.specs.declared.profile.Profile.{Profile}
use Rattle.org_cal.specs.declared.moment.Moment.{Moment}
use Rattle.org_client.specs.ReminderLaws.{IsNoLater, RemindersJoin}
use Rattle.org_client.specs.Reminders.{day_between, is_after, is_between, starts_between}
use Rattle.org_client.specs.declared.next.Upcoming.{Upcoming}
use Rattle.org_client.proofs.MatchingLemmas.{order_filtered, starts_filtered}
use Rattle.org_client.proofs.NextLemmas.{range_more}
use Rattle.org_entry.specs.declared.active.Role.{Role}
use Rattle.org_entry.specs.declared.active.Role.TheVariants.{Plain, Scheduled, Deadline}

-- one day more of a list that is made day by day
pub days_more : {Y : Type 0} (f : ℕ → List Y) (so_far new : List Y) (first n day : ℕ) → day ≡ first + n → so_far ≡ flat_map f (range_with_len first n) → new ≡ so_far ++ f day → new ≡ flat_map f (range_with_len first (n + 1))
days_more f so_far new first n day is so one =
    one
    ∙ ((λ k. so k ++ f (is k))
    ∙ sym (ap (flat_map f) (range_more first n) ∙ (flat_map-append f (range_with_len first n) ((first + n) ∷ []) ∙ ap (λ ys. flat_map f (range_with_len first n) ++ ys) (append-nil (f (first + n))))))

-- a list by two tests

pub none_pass : {X : Type 0} (p : X → Bool) (xs : List X) → ((j : ℕ) (y : X) → slice_get xs j ≡ Some y → p y ≡ false) → filter p xs ≡ []
none_pass p [] h = refl
none_pass p (x ∷ xs) h = ap (λ b. cond b (x ∷ filter p xs) (filter p xs)) (h 0 x refl) ∙ none_pass p xs (λ j y e. h (suc j) y e)

-- a test is one of two others, and never both
record Parts {X : Type 0} (whole one two : X → Bool) : Type 0 where
  either : (x : X) → whole x ≡ (one x || two x)
  never : (x : X) → one x ≡ true → two x ≡ true → ⊥

-- where none that passes the second stands before one that passes the first, the whole is the first ones and then the second
parts_joined : {X : Type 0} (whole one two : X → Bool) → Parts whole one two → (xs : List X) →
    ((i j : ℕ) (x y : X) → i < j → slice_get xs i ≡ Some x → slice_get xs j ≡ Some y → two x ≡ true → one y ≡ false) →
    filter whole xs ≡ filter one xs ++ filter two xs
parts_joined whole one two parts [] ordered = refl
parts_joined {X = X} whole one two parts (x ∷ xs) ordered =
    ap (λ b. cond b (x ∷ filter whole xs) (filter whole xs)) (parts.either x)
    ∙ by (one x) (two x) refl refl (parts_joined whole one two parts xs (λ i j u v lt e f t. ordered (suc i) (suc j) u v (omega (arith, lt)) e f t))
  where
    by : (a b : Bool) → one x ≡ a → two x ≡ b → filter whole xs ≡ filter one xs ++ filter two xs →
        cond (a || b) (x ∷ filter whole xs) (filter whole xs) ≡ cond a (x ∷ filter one xs) (filter one xs) ++ cond b (x ∷ filter two xs) (filter two xs)
    by true true e f h = absurd (parts.never x e f)
    by true false e f h = ap (λ ys. x ∷ ys) h
    by false true e f h =
        let gone : filter one xs ≡ [] = none_pass one xs (λ j y at. ordered 0 (suc j) x y (omega arith) refl at f) in
        ap (λ ys. x ∷ ys) (h ∙ ap (λ ys. ys ++ filter two xs) gone) ∙ ap (λ ys. ys ++ (x ∷ filter two xs)) (sym gone)
    by false false e f h = h

-- moments

after_rises : (m : Moment) (day s t : ℕ) → is_after m day s ≡ true → s ≤ t → is_after m day t ≡ true
after_rises m day s t h le = grind (arith, nat_tests)

after_falls : (a b : Moment) (day s : ℕ) → IsNoLater a b → is_after b day s ≡ true → is_after a day s ≡ true
after_falls a b day s (inl lt) h = grind (arith, nat_tests)
after_falls a b day s (inr same) h = grind (arith, nat_tests)

before_day : (b : Moment) (day s : ℕ) → day < b.day → is_after b day s ≡ false
before_day b day s lt = grind (arith, nat_tests)

past_day : (b : Moment) (day s : ℕ) → b.day < day → is_after b day s ≡ true
past_day b day s lt = grind (arith, nat_tests)

-- three answers of which none goes back

cut : (p q r : Bool) → (q ≡ true → p ≡ true) → (r ≡ true → q ≡ true) → (p && not r) ≡ ((p && not q) || (q && not r))
cut true true true f g = refl
cut true true false f g = refl
cut true false true f g = let e : false ≡ true = g refl in absurd cc
cut true false false f g = refl
cut false true r f g = let e : false ≡ true = f refl in absurd cc
cut false false true f g = refl
cut false false false f g = refl

apart : (p q r : Bool) → (p && not q) ≡ true → (q && not r) ≡ true → ⊥
apart true true r e f = absurd cc
apart true false r e f = absurd cc
apart false q r e f = absurd cc

no_first : (p q : Bool) → q ≡ true → (p && not q) ≡ false
no_first true true e = refl
no_first false true e = refl
no_first p false e = absurd cc

second_is_after : (q r : Bool) → (q && not r) ≡ true → q ≡ true
second_is_after true r e = refl
second_is_after false r e = absurd cc

-- on a day before a moment nothing starts after it, and on a day past a moment nothing starts up to it

none_before : (b c : Moment) (day : ℕ) → day < b.day → (start : Option ℕ) → starts_between b c day start ≡ false
none_before b c day lt None = refl
none_before b c day lt (Some s) = ap (λ x. x && not (is_after c day s)) (before_day b day s lt)

none_past : (a b : Moment) (day : ℕ) → b.day < day → (start : Option ℕ) → starts_between a b day start ≡ false
none_past a b day lt None = refl
none_past a b day lt (Some s) = no_first (is_after a day s) (is_after b day s) (past_day b day s lt)

module _ (a b c : Moment) (ab : IsNoLater a b) (bc : IsNoLater b c) (day : ℕ) where
  either_start : (start : Option ℕ) → starts_between a c day start ≡ (starts_between a b day start || starts_between b c day start)
  either_start None = refl
  either_start (Some s) = cut (is_after a day s) (is_after b day s) (is_after c day s) (after_falls a b day s ab) (after_falls b c day s bc)

  never_both : (start : Option ℕ) → starts_between a b day start ≡ true → starts_between b c day start ≡ true → ⊥
  never_both None e f = absurd cc
  never_both (Some s) e f = apart (is_after a day s) (is_after b day s) (is_after c day s) e f

  day_parts : Parts (is_between a c day) (is_between a b day) (is_between b c day)
  day_parts = record { either = λ row. either_start row.start; never = λ row. never_both row.start }

  -- after a start past the second moment none stands that isn't
  in_turn : (first second : Option ℕ) → MayStandBefore first second → starts_between b c day first ≡ true → starts_between a b day second ≡ false
  in_turn None second may two = absurd cc
  in_turn (Some s) None may two = refl
  in_turn (Some s) (Some t) may two =
      no_first (is_after a day t) (is_after b day t) (after_rises b day s t (second_is_after (is_after b day s) (is_after c day s) two) may)

  rows_joined : (p : Profile) (stamps : List HeadingStamp) (today : ℕ) → All IsReal stamps →
      filter (is_between a c day) (day_rows p stamps today day) ≡ filter (is_between a b day) (day_rows p stamps today day) ++ filter (is_between b c day) (day_rows p stamps today day)
  rows_joined p stamps today real =
      parts_joined (is_between a c day) (is_between a b day) (is_between b c day) day_parts (day_rows p stamps today day)
      (λ i j x y lt at there two. in_turn x.start y.start (starts_rise p stamps today day i j x y real lt at there) two)

-- rows with a start are the same whichever day is today

filter_flat_map : {X Y : Type 0} (q : Y → Bool) (f : X → List Y) (xs : List X) → filter q (flat_map f xs) ≡ flat_map (λ x. filter q (f x)) xs
filter_flat_map q f [] = refl
filter_flat_map q f (x ∷ xs) = filter-append q (f x) (flat_map f xs) ∙ ap (λ ys. filter q (f x) ++ ys) (filter_flat_map q f xs)

same_flat_map : {X Y : Type 0} (f g : X → List Y) (xs : List X) → ((x : X) → f x ≡ g x) → flat_map f xs ≡ flat_map g xs
same_flat_map f g [] same = refl
same_flat_map f g (x ∷ xs) same = (λ i. same x i ++ same_flat_map f g xs same i)

module _ (after until : Moment) (p : Profile) (one two day : ℕ) where
  abbrev timed : Ranked → Bool
  timed ranked = is_between after until day ranked.row

  -- a kind without a start gives none
  none_timed : (kind : RowKind) (s : HeadingStamp) (today : ℕ) → (stamp_row p kind s day).start ≡ None → filter timed (kind_rows p kind s today day) ≡ []
  none_timed kind s today none = by (is_shown p kind s today day)
    where
      row : Ranked
      row = record { priority = s.owner.priority; row = stamp_row p kind s day }

      by : (b : Bool) → filter timed (cond b (row ∷ []) []) ≡ []
      by true = ap (λ start. cond (starts_between after until day start) (row ∷ []) []) none
      by false = refl

  role_timed : (role : Role) (s : HeadingStamp) → filter timed (role_rows p role s one day) ≡ filter timed (role_rows p role s two day)
  role_timed Plain s = refl
  role_timed Scheduled s =
      filter-append timed (kind_rows p OnSchedule s one day) (kind_rows p LateSchedule s one day)
      ∙ (ap (λ rows. filter timed (kind_rows p OnSchedule s one day) ++ rows) (none_timed LateSchedule s one refl ∙ sym (none_timed LateSchedule s two refl))
      ∙ sym (filter-append timed (kind_rows p OnSchedule s two day) (kind_rows p LateSchedule s two day)))
  role_timed Deadline s =
      filter-append timed (kind_rows p OnDeadline s one day) (kind_rows p Warning s one day ++ kind_rows p LateDeadline s one day)
      ∙ (ap (λ rows. filter timed (kind_rows p OnDeadline s one day) ++ rows) (late one ∙ sym (late two))
      ∙ sym (filter-append timed (kind_rows p OnDeadline s two day) (kind_rows p Warning s two day ++ kind_rows p LateDeadline s two day)))
    where
      late : (today : ℕ) → filter timed (kind_rows p Warning s today day ++ kind_rows p LateDeadline s today day) ≡ []
      late today =
          filter-append timed (kind_rows p Warning s today day) (kind_rows p LateDeadline s today day)
          ∙ (λ i. none_timed Warning s today refl i ++ none_timed LateDeadline s today refl i)

  source_timed : (s : HeadingStamp) → filter timed (source_rows p one day s) ≡ filter timed (source_rows p two day s)
  unfolding source_rows
  source_timed s = role_timed s.role s

  ranked_timed : (stamps : List HeadingStamp) → filter timed (flat_map (source_rows p one day) stamps) ≡ filter timed (flat_map (source_rows p two day) stamps)
  ranked_timed stamps =
      filter_flat_map timed (source_rows p one day) stamps
      ∙ (same_flat_map (λ s. filter timed (source_rows p one day s)) (λ s. filter timed (source_rows p two day s)) stamps source_timed
      ∙ sym (filter_flat_map timed (source_rows p two day) stamps))

  rows_timed : (stamps : List HeadingStamp) → filter (is_between after until day) (day_rows p stamps one day) ≡ filter (is_between after until day) (day_rows p stamps two day)
  unfolding day_rows
  rows_timed stamps =
      starts_filtered (is_between after until day) (in_order (flat_map (source_rows p one day) stamps))
      ∙ (ap by_start
      (order_filtered (is_between after until day) (flat_map (source_rows p one day) stamps)
      ∙ (ap in_order (ranked_timed stamps) ∙ sym (order_filtered (is_between after until day) (flat_map (source_rows p two day) stamps))))
      ∙ sym (starts_filtered (is_between after until day) (in_order (flat_map (source_rows p two day) stamps))))

-- days one after another

map-append : {X Y : Type 0} (f : X → Y) (xs ys : List X) → map f (xs ++ ys) ≡ map f xs ++ map f ys
map-append f [] ys = refl
map-append f (x ∷ xs) ys = ap (λ zs. f x ∷ zs) (map-append f xs ys)

module _ {Y : Type 0} (f g h : ℕ → List Y) (mid : ℕ) (same : (d : ℕ) → f d ≡ g d ++ h d) (early : (d : ℕ) → d < mid → h d ≡ []) (late : (d : ℕ) → mid < d → g d ≡ []) where
  later : (d n : ℕ) → mid < d → flat_map f (range_with_len d n) ≡ flat_map h (range_with_len d n)
  later d zero lt = refl
  later d (suc n) lt =
      let one : f d ≡ h d = same d ∙ ap (λ ys. ys ++ h d) (late d lt) in
      (λ i. one i ++ later (d + 1) n (omega (arith, lt)) i)

  days_joined : (n d m whole : ℕ) → d + n ≡ mid → whole ≡ suc (n + m) → flat_map f (range_with_len d whole) ≡ flat_map g (range_with_len d (suc n)) ++ flat_map h (range_with_len mid (suc m))
  days_joined zero d m whole at count =
      let here : d ≡ mid = omega (arith, at) in
      let left : whole ≡ suc m = omega (arith, count) in
      let rest = later (d + 1) m (omega (arith, here)) in
      ap (λ k. flat_map f (range_with_len d k)) left
      ∙ ((λ i. same d i ++ rest i)
      ∙ (append_assoc (g d) (h d) (flat_map h (range_with_len (d + 1) m))
      ∙ (λ i. sym (append-nil (g d)) i ++ (h (here i) ++ flat_map h (range_with_len (here i + 1) m)))))
  days_joined (suc n) d m whole at count =
      let one : f d ≡ g d = same d ∙ (ap (λ ys. g d ++ ys) (early d (omega (arith, at))) ∙ append-nil (g d)) in
      let left : whole ≡ suc (suc (n + m)) = omega (arith, count) in
      ap (λ k. flat_map f (range_with_len d k)) left
      ∙ ((λ i. one i ++ days_joined n (d + 1) m (suc (n + m)) (omega (arith, at)) refl i)
      ∙ sym (append_assoc (g d) (flat_map g (range_with_len (d + 1) (suc n))) (flat_map h (range_with_len mid (suc m)))))

pub reminders_join : RemindersJoin
reminders_join p stamps one two both a b c real ab bc =
    days_joined f g h b.day same early late (b.day - a.day) a.day (c.day - b.day) (c.day + 1 - a.day) (omega (arith, first)) (omega (arith, first, second))
    ∙ (λ i. flat_map g (range_with_len a.day (left i)) ++ flat_map h (range_with_len b.day (right i)))
  where
    no_later : (x y : Moment) → IsNoLater x y → x.day ≤ y.day
    no_later x y (inl lt) = omega (arith, lt)
    no_later x y (inr e) = omega (arith, e)

    first : a.day ≤ b.day
    first = no_later a b ab

    second : b.day ≤ c.day
    second = no_later b c bc

    left : suc (b.day - a.day) ≡ b.day + 1 - a.day
    left = omega (arith, first)

    right : suc (c.day - b.day) ≡ c.day + 1 - b.day
    right = omega (arith, second)

    f : ℕ → List Upcoming
    f day = day_between a c day (day_rows p stamps both day)

    g : ℕ → List Upcoming
    g day = day_between a b day (day_rows p stamps one day)

    h : ℕ → List Upcoming
    h day = day_between b c day (day_rows p stamps two day)

    of : ℕ → Row → Upcoming
    of day row = record { day = day; row = row }

    same : (d : ℕ) → f d ≡ g d ++ h d
    same d =
        ap (map (of d)) (rows_joined a b c ab bc d p stamps both real)
        ∙ (map-append (of d) (filter (is_between a b d) (day_rows p stamps both d)) (filter (is_between b c d) (day_rows p stamps both d))
        ∙ (λ i. map (of d) (rows_timed a b p both one d stamps i) ++ map (of d) (rows_timed b c p both two d stamps i)))

    early : (d : ℕ) → d < b.day → h d ≡ []
    early d lt = ap (map (of d)) (none_pass (is_between b c d) (day_rows p stamps two d) (λ j row at. none_before b c d lt row.start))

    late : (d : ℕ) → b.day < d → g d ≡ []
    late d lt = ap (map (of d)) (none_pass (is_between a b d) (day_rows p stamps one d) (λ j row at. none_past a b d lt row.start))
