-- The days on which what stamps stand for begins.
use Rattle.std.proofs.Common.{◌≡◌, ◌∙◌, ℕ, zero, suc, ◌+◌, ◌-◌, ◌<◌, ◌≤◌, Bool, true, false, cond, List, [], ◌∷◌, ◌++◌, append-nil, sym, ap, refl, arith}
use Rattle.std.specs.Prelude.{Option, None, Some, filter, is_none, is_some, unwrap_or, ◌==◌, ◌&&◌, ◌||◌}
use Rattle.std.specs.List.{list_any, range_with_len}
use Rattle.std.proofs.lemmas.Bool.{ne_eqb}
use Rattle.std.proofs.lemmas.List.{append_assoc}
use Rattle.org_base.specs.declared.profile.Profile.{Profile}
use Rattle.org_cal.specs.Days.{IsDay}
use Rattle.org_stamp.specs.declared.stamp.Stamp.{Stamp}
use Rattle.org_repeat.specs.Decided.{occurs, range_start}
use Rattle.org_agenda.specs.Begins.{BeginsAreRows, begin_days, begin_on, begins, begins_as, begins_plain, is_own}
use Rattle.org_agenda.specs.Days.{is_shown, kind_rows, occurs_delayed, role_rows, shown_from, source_rows}
use Rattle.org_agenda.specs.Lists.{Ranked}
use Rattle.org_agenda.specs.Spread.{NoDayHas}
use Rattle.org_agenda.specs.declared.spread.TheConstants.{NEVER}
use Rattle.org_agenda.specs.declared.row.RowKind.{RowKind}
use Rattle.org_agenda.specs.declared.row.RowKind.TheVariants.{InRange, LateDeadline, LateSchedule, OnDay, OnDeadline, OnSchedule, Warning}
use Rattle.org_agenda.specs.declared.source.HeadingStamp.{HeadingStamp}
use Rattle.org_agenda.proofs.SpreadLemmas.{no_start}
use Rattle.org_entry.specs.declared.active.Role.{Role}
use Rattle.org_entry.specs.declared.active.Role.TheVariants.{Deadline, Plain, Scheduled}

-- ---- days that are passed over

-- numbers of which a test holds of none at their front
skipped : (test : ℕ → Bool) (k from n : ℕ) → ((e : ℕ) → from ≤ e → e < from + k → test e ≡ false) →
    filter test (range_with_len from (k + n)) ≡ filter test (range_with_len (from + k) n)
skipped test zero from n none =
    let none' : zero + n ≡ n = omega arith in
    let here : from ≡ from + zero = omega arith in
    ap (λ m. filter test (range_with_len from m)) none' ∙ ap (λ a. filter test (range_with_len a n)) here
skipped test (suc k) from n none =
    let longer : suc k + n ≡ suc (k + n) = omega arith in
    let first : test from ≡ false = none from (omega arith) (omega arith) in
    let rest = skipped test k (from + 1) n (λ e late early. none e (omega (arith, late)) (omega (arith, early))) in
    let same : from + 1 + k ≡ from + suc k = omega arith in
    ap (λ m. filter test (range_with_len from m)) longer
    ∙ ap (λ b. cond b (from ∷ filter test (range_with_len (from + 1) (k + n))) (filter test (range_with_len (from + 1) (k + n)))) first
    ∙ rest
    ∙ ap (λ a. filter test (range_with_len a n)) same

-- the days so far with those that are left, from a next one on, up to an end
abbrev pub Left : Profile → HeadingStamp → ℕ → ℕ → List ℕ
Left p s next end = filter (begins p s) (range_with_len next (end - next))

-- none of the days up to the next one
pub passed : (p : Profile) (s : HeadingStamp) (from to end : ℕ) → NoDayHas (begins p s) from to → 1 ≤ from → from ≤ to → to ≤ end → end ≤ NEVER →
    Left p s from end ≡ Left p s to end
passed p s from to end none one ahead within last =
    let k : ℕ = to - from in
    let whole : end - from ≡ k + (end - to) = omega (arith, ahead, within) in
    let there : from + k ≡ to = omega (arith, ahead) in
    ap (λ n. filter (begins p s) (range_with_len from n)) whole
    ∙ skipped (begins p s) k from (end - to) (λ e late early. none e (omega (arith, late, one), omega (arith, early, there, within, last)) late (omega (arith, early, there)))
    ∙ ap (λ a. filter (begins p s) (range_with_len a (end - to))) there

-- where the end is reached none is left
left_none : (p : Profile) (s : HeadingStamp) (next end : ℕ) → end ≤ next → Left p s next end ≡ []
left_none p s next end done = let none : end - next ≡ 0 = omega (arith, done) in ap (λ n. filter (begins p s) (range_with_len next n)) none

split : (b : Bool) (day : ℕ) (rest : List ℕ) → cond b (day ∷ rest) rest ≡ cond b (day ∷ []) [] ++ rest
split true day rest = refl
split false day rest = refl

one_left : (p : Profile) (s : HeadingStamp) (day end : ℕ) → day < end → Left p s day end ≡ begin_on p s day ++ Left p s (day + 1) end
one_left p s day end within =
    let more : end - day ≡ suc (end - (day + 1)) = omega (arith, within) in
    ap (λ n. filter (begins p s) (range_with_len day n)) more ∙ split (begins p s day) day (filter (begins p s) (range_with_len (day + 1) (end - (day + 1))))

-- at first all are left
pub all_left : (p : Profile) (s : HeadingStamp) (first count end : ℕ) → end ≡ first + count → Left p s first end ≡ begin_days p s first count
all_left p s first count end is = let same : end - first ≡ count = omega (arith, is) in ap (λ n. filter (begins p s) (range_with_len first n)) same

-- one day more is looked at
pub looked_at : (p : Profile) (s : HeadingStamp) (days now target : List ℕ) (next day end : ℕ) → days ++ Left p s next end ≡ target →
    NoDayHas (begins p s) next day → 1 ≤ next → next ≤ day → day < end → end ≤ NEVER → now ≡ days ++ begin_on p s day → now ++ Left p s (day + 1) end ≡ target
looked_at p s days now target next day end told none one ahead within last put =
    let rest = Left p s (day + 1) end in
    ap (λ t. t ++ rest) put
    ∙ append_assoc days (begin_on p s day) rest
    ∙ ap (λ t. days ++ t) (sym (passed p s next day end none one ahead (omega (arith, within)) last ∙ one_left p s day end within))
    ∙ told

-- no day is left from here on
pub looked_at_all : (p : Profile) (s : HeadingStamp) (days target : List ℕ) (next day end : ℕ) → days ++ Left p s next end ≡ target →
    NoDayHas (begins p s) next day → 1 ≤ next → next ≤ end → end ≤ day → end ≤ NEVER → days ≡ target
looked_at_all p s days target next day end told none one ahead within last =
    sym (append-nil days)
    ∙ ap (λ t. days ++ t) (sym (passed p s next end end (λ e is late early. none e is late (omega (arith, early, within))) one ahead (omega arith) last ∙ left_none p s end end (omega arith)))
    ∙ told

pub no_more : (p : Profile) (s : HeadingStamp) (days target : List ℕ) (next end : ℕ) → days ++ Left p s next end ≡ target → end ≤ next → days ≡ target
no_more p s days target next end told done = sym (append-nil days) ∙ ap (λ t. days ++ t) (sym (left_none p s next end done)) ∙ told

-- ---- where there is no occurrence, nothing begins

start_apart : (p : Profile) (s : Stamp) (day : ℕ) → IsDay day → is_some (range_start p s day) ≡ false → (shown_from p s day == day) ≡ false
start_apart p s day is none = by (range_start p s day) none
  where
    by : (start : Option ℕ) → is_some start ≡ false → (unwrap_or start 0 == day) ≡ false
    by None e = let real : 1 ≤ day = is.0 in ne_eqb 0 day (λ same. omega (arith, real, same))
    by (Some start) e = absurd cc

plain_apart : (p : Profile) (s : Stamp) (last : Option (ℕ × Option ℕ)) (day : ℕ) → IsDay day → occurs p s day ≡ false → begins_plain p s last day ≡ false
plain_apart p s None day is none = none
plain_apart p s (Some last) day is none = start_apart p s day is (no_start p s day none)

pub none_begins : (p : Profile) (s : Stamp) (last : Option (ℕ × Option ℕ)) (from to : ℕ) → NoDayHas (occurs p s) from to → NoDayHas (begins_plain p s last) from to
none_begins p s last from to none day is late early = plain_apart p s last day is (none day is late early)

-- the same by the role
pub as_role : (p : Profile) (s : HeadingStamp) (role : Role) (from to : ℕ) → s.role ≡ role → NoDayHas (begins_as p role s.stamp) from to → NoDayHas (begins p s) from to
as_role p s role from to is none day real late early = ap (λ r. begins_as p r s.stamp day) is ∙ none day real late early

-- ---- what begins is what a day shows as on its own day

abbrev has_own : List Ranked → Bool
has_own rows = list_any (λ (r : Ranked). is_own r.row.kind) rows

has_own-append : (a b : List Ranked) → has_own (a ++ b) ≡ (has_own a || has_own b)
has_own-append [] b = refl
has_own-append (r ∷ rs) b = by (is_own r.row.kind) (has_own-append rs b)
  where
    by : (t : Bool) → has_own (rs ++ b) ≡ (has_own rs || has_own b) → (t || has_own (rs ++ b)) ≡ ((t || has_own rs) || has_own b)
    by true e = refl
    by false e = e

own : (shown : Bool) (r : Ranked) → is_own r.row.kind ≡ true → has_own (cond shown (r ∷ []) []) ≡ shown
own true r e = ap (λ b. b || false) e
own false r e = refl

other : (shown : Bool) (r : Ranked) → is_own r.row.kind ≡ false → has_own (cond shown (r ∷ []) []) ≡ false
other true r e = ap (λ b. b || false) e
other false r e = refl

or_none : (b : Bool) → (b || false) ≡ b
or_none true = refl
or_none false = refl

first_alone : (a b : List Ranked) (shown : Bool) → has_own a ≡ shown → has_own b ≡ false → has_own (a ++ b) ≡ shown
first_alone a b shown e f = has_own-append a b ∙ ap (λ t. t || has_own b) e ∙ ap (λ t. shown || t) f ∙ or_none shown

none_of_both : (a b : List Ranked) → has_own a ≡ false → has_own b ≡ false → has_own (a ++ b) ≡ false
none_of_both a b e f = first_alone a b false e f

by_role : (p : Profile) (s : HeadingStamp) (today day : ℕ) (role : Role) → s.stamp.last ≡ None → has_own (role_rows p role s today day) ≡ begins_as p role s.stamp day
by_role p s today day Plain single =
    let shown : is_shown p OnDay s today day ≡ begins_plain p s.stamp s.stamp.last day =
    ap (λ last. is_none last && occurs p s.stamp day) single ∙ sym (ap (λ last. begins_plain p s.stamp last day) single) in
    first_alone (kind_rows p OnDay s today day) (kind_rows p InRange s today day) (begins_plain p s.stamp s.stamp.last day)
    (own (is_shown p OnDay s today day) _ refl ∙ shown) (other (is_shown p InRange s today day) _ refl)
by_role p s today day Scheduled single =
    first_alone (kind_rows p OnSchedule s today day) (kind_rows p LateSchedule s today day) (occurs_delayed p s.stamp s.stamp.delay day)
    (own (is_shown p OnSchedule s today day) _ refl) (other (is_shown p LateSchedule s today day) _ refl)
by_role p s today day Deadline single =
    first_alone (kind_rows p OnDeadline s today day) (kind_rows p Warning s today day ++ kind_rows p LateDeadline s today day) (begins_plain p s.stamp s.stamp.last day)
    (own (is_shown p OnDeadline s today day) _ refl ∙ sym (ap (λ last. begins_plain p s.stamp last day) single))
    (none_of_both (kind_rows p Warning s today day) (kind_rows p LateDeadline s today day)
    (other (is_shown p Warning s today day) _ refl) (other (is_shown p LateDeadline s today day) _ refl))

pub begins_are_rows : BeginsAreRows
unfolding source_rows
begins_are_rows p s today day single = by_role p s today day s.role single
