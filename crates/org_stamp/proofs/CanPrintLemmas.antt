-- What the grammar gives can be printed.
use Rattle.std.proofs.Common.{◌≡◌, ℕ, ◌+◌, ◌-◌, ◌*◌, ◌<◌, ◌≤◌, inl, inr, Bool, true, false, ◌==◌, ◌&&◌, nat_lt, if◌then◌else◌, List, [], ◌∷◌, refl, sym, subst, arith}
use Rattle.std.specs.Prelude.{Option, Some, None, IfSome, IfNone, position, take, drop}
use Rattle.std.specs.Option.{option_map, option_and_then}
use Rattle.std.specs.Char.{is_ascii_digit}
use Rattle.std.proofs.lemmas.Bool.Decides.{nat_tests}
use Rattle.std.proofs.lemmas.Option.{option_and_then_some}
use Rattle.org_cal.specs.declared.unit.Unit.{Unit as TimeUnit}
use Rattle.org_cal.specs.Days.{IsDay, day_number}
use Rattle.org_cal.specs.Texts.{time_at, time_of, date_of, day_of, four_digits, hour_minute, is_year_month_day, two_digits}
use Rattle.org_cal.proofs.PartLemmas.{number_holds}
use Rattle.org_stamp.specs.declared.mark.Mark.{Mark}
use Rattle.org_stamp.specs.declared.mark.Mark.TheVariants.{Repeat, Wait}
use Rattle.org_stamp.specs.declared.mark.Repeater.{Repeater}
use Rattle.org_stamp.specs.declared.mark.Sign.{Sign}
use Rattle.org_stamp.specs.declared.mark.Sign.TheVariants.{Repeats, Waits}
use Rattle.org_stamp.specs.declared.stamp.Stamp.{Stamp}
use Rattle.org_stamp.specs.CanPrint.{IsRepeater, CanPrint}
use Rattle.org_stamp.specs.Inner.{inner_of, stamp_of_words, after_date, after_name, after_time, times_of, times_at, without_zero, is_name, is_dash}
use Rattle.org_stamp.proofs.InnerWords.{timed}
use Rattle.org_stamp.specs.Mark.{Marks, amount, amount_from, mark_with, limit, mark_of, marks_from, sign_at, top, unit_of, whole, with_mark}
use Rattle.org_stamp.specs.Read.{single_of, stamp_of}
use Rattle.org_stamp.specs.Stamp.{IsStamp, with_last}
use Rattle.org_base.specs.Words.{is_space}
use Rattle.org_stamp.specs.Word.{words}
use Rattle.org_stamp.proofs.ReadLemmas.{single_found, stamp_found}

mapped : {A B P : Type 0} (f : A → B) (o : Option A) (y : B) → option_map f o ≡ Some y → ((x : A) → o ≡ Some x → f x ≡ y → P) → P
mapped f None y e k = absurd (cc)
mapped f (Some x) y e k = k x refl (cc)

chosen : {A P : Type 0} (b : Bool) (x y z : A) → (if b then x else y) ≡ z → (b ≡ true → x ≡ z → P) → (b ≡ false → y ≡ z → P) → P
chosen true x y z e k h = k refl e
chosen false x y z e k h = h refl e

-- times
time_at_small : (h m c : ℕ) → time_at h m ≡ Some c → c < 1440
time_at_small h m c e = chosen (nat_lt h 24 && nat_lt m 60) _ _ _ e (λ both is. let same : h * 60 + m ≡ c = (cc) in grind (arith, nat_tests)) (λ no is. absurd (cc))

hour_minute_small : (a b colon c d t : ℕ) → hour_minute a b colon c d ≡ Some t → t < 1440
hour_minute_small a b colon c d t e =
    chosen (colon == 58) _ _ _ e
    (λ yes is. option_and_then_some _ (two_digits a b) t is (λ h was next. option_and_then_some _ (two_digits c d) t next (λ m had last. time_at_small h m t last)))
    (λ no is. absurd (cc))

time_of_small : (w : List ℕ) (t : ℕ) → time_of w ≡ Some t → t < 1440
time_of_small [] t e = absurd (cc)
time_of_small (a ∷ []) t e = absurd (cc)
time_of_small (a ∷ b ∷ []) t e = absurd (cc)
time_of_small (a ∷ b ∷ c ∷ []) t e = absurd (cc)
time_of_small (b ∷ colon ∷ c ∷ d ∷ []) t e = hour_minute_small 48 b colon c d t e
time_of_small (a ∷ b ∷ colon ∷ c ∷ d ∷ []) t e = hour_minute_small a b colon c d t e
time_of_small (a ∷ b ∷ c ∷ d ∷ f ∷ g ∷ rest) t e = absurd (cc)

abbrev AreTimes : ℕ × Option ℕ → Type 0
AreTimes t = (t.0 < 1440) × IfSome t.1 (λ c. c < 1440)

times_at_small : (w : List ℕ) (i : Option ℕ) (t : ℕ × Option ℕ) → times_at w i ≡ Some t → AreTimes t
times_at_small w None t e = mapped _ (time_of w) t e (λ c was is. subst AreTimes is (time_of_small w c was, tt))
times_at_small w (Some i) t e =
    option_and_then_some _ (time_of (take i w)) t e (λ c was next.
    mapped _ (time_of (drop (i + 1) w)) t next (λ d had is. subst AreTimes is (time_of_small (take i w) c was, time_of_small (drop (i + 1) w) d had)))

-- amounts
top_more : (room n b : ℕ) → room ≤ 3 → (room == 0) ≡ false → n ≤ top room → is_ascii_digit b ≡ true → n * 10 + (b - 48) ≤ top (room - 1)
top_more room n b few some le digit = grind (arith, nat_tests)

top_few : (room n : ℕ) → n ≤ top room → n < 10000
top_few room n le = grind (arith, nat_tests)

amount_from_small : (room n : ℕ) (bs : List ℕ) (a : (ℕ × TimeUnit) × List ℕ) → room ≤ 3 → n ≤ top room → amount_from room n bs ≡ Some a → a.0.0 < 10000
amount_from_small room n [] a few le e = absurd (cc)
amount_from_small room n (b ∷ bs) a few le e =
    chosen (is_ascii_digit b) _ _ _ e
    (λ digit is. chosen (room == 0) _ _ _ is
    (λ yes no. absurd (cc))
    (λ no next. amount_from_small (room - 1) (n * 10 + (b - 48)) bs a (omega (arith, few)) (top_more room n b few no le digit) next))
    (λ no is. mapped _ (unit_of b) a is (λ unit was same. subst (λ (p : (ℕ × TimeUnit) × List ℕ). p.0.0 < 10000) same (top_few room n le)))

amount_small : (bs : List ℕ) (a : (ℕ × TimeUnit) × List ℕ) → amount bs ≡ Some a → a.0.0 < 10000
amount_small [] a e = absurd (cc)
amount_small (b ∷ bs) a e = chosen (is_ascii_digit b) _ _ _ e (λ digit is. amount_from_small 3 (b - 48) bs a (omega arith) (grind (arith, nat_tests)) is) (λ no is. absurd (cc))

abbrev FewLimit : Option (ℕ × TimeUnit) → Type 0
FewLimit l = IfSome l (λ a. a.0 < 10000)

whole_small : (p : (ℕ × TimeUnit) × List ℕ) (a : ℕ × TimeUnit) → p.0.0 < 10000 → whole p ≡ Some a → a.0 < 10000
whole_small (x, []) a few e = subst (λ (y : ℕ × TimeUnit). y.0 < 10000) (let same : x ≡ a = (cc) in same) few
whole_small (x, (b ∷ bs)) a few e = absurd (cc)

limit_small : (bs : List ℕ) (l : Option (ℕ × TimeUnit)) → limit bs ≡ Some l → FewLimit l
limit_small [] l e = subst FewLimit (let same : None ≡ l = (cc) in same) tt
limit_small (b ∷ bs) l e =
    chosen (b == 47) _ _ _ e
    (λ slash is. mapped _ (option_and_then whole (amount bs)) l is (λ a was same. subst FewLimit same (option_and_then_some whole (amount bs) a was (λ p had last. whole_small p a (amount_small bs p had) last))))
    (λ no is. absurd (cc))

abbrev IsFew : Repeater → Type 0
IsFew r = (r.n < 10000) × FewLimit r.limit

abbrev IsMark : Mark → Type 0
IsMark (Repeat r) = IsFew r
IsMark (Wait d) = d.n < 10000

finished_small : (s : Sign) (p : (ℕ × TimeUnit) × List ℕ) (m : Mark) → p.0.0 < 10000 → mark_with s p ≡ Some m → IsMark m
finished_small (Repeats kind) (a, rest) m few e = mapped _ (limit rest) m e (λ l was is. subst IsMark is (few, limit_small rest l was))
finished_small (Waits first) (a, []) m few e = subst IsMark (let same : Wait (record { first_only = first; n = a.0; unit = a.1 }) ≡ m = (cc) in same) few
finished_small (Waits first) (a, (b ∷ bs)) m few e = absurd (cc)

mark_small : (w : List ℕ) (m : Mark) → mark_of w ≡ Some m → IsMark m
mark_small w m e = option_and_then_some _ (sign_at w) m e (λ s was next. option_and_then_some (mark_with s.0) (amount s.1) m next (λ p had last. finished_small s.0 p m (amount_small s.1 p had) last))

abbrev AreMarks : Marks → Type 0
AreMarks m = IfSome m.0 IsFew × IfSome m.1 (λ d. d.n < 10000)

with_small : (so_far : Marks) (m : Mark) (all : Marks) → AreMarks so_far → IsMark m → with_mark so_far m ≡ Some all → AreMarks all
with_small (None, delay) (Repeat r) all are is e = subst AreMarks (let same : (Some r, delay) ≡ all = (cc) in same) (is, are.1)
with_small (Some q, delay) (Repeat r) all are is e = absurd (cc)
with_small (repeater, None) (Wait d) all are is e = subst AreMarks (let same : (repeater, Some d) ≡ all = (cc) in same) (are.0, is)
with_small (repeater, Some f) (Wait d) all are is e = absurd (cc)

marks_small : (so_far : Marks) (ws : List (List ℕ)) (all : Marks) → AreMarks so_far → marks_from so_far ws ≡ Some all → AreMarks all
marks_small so_far [] all are e = subst AreMarks (let same : so_far ≡ all = (cc) in same) are
marks_small so_far (w ∷ ws) all are e =
    option_and_then_some _ (option_and_then (with_mark so_far) (mark_of w)) all e (λ more was next.
    marks_small more ws all (option_and_then_some (with_mark so_far) (mark_of w) more was (λ m had last. with_small so_far m more are (mark_small w m had) last)) next)

counted_by : (r : Repeater) (b : Bool) → b ≡ (r.n == 0) → IsFew r → IfSome (if b then None else Some r) IsRepeater
counted_by r true e h = tt
counted_by r false e h = record { some = grind (arith, nat_tests); few = h.0; limit_few = h.1 }

counted_small : (r : Option Repeater) → IfSome r IsFew → IfSome (without_zero r) IsRepeater
counted_small None h = tt
counted_small (Some r) h = counted_by r (r.n == 0) refl h

-- the day of a date is one of the calendar
is_day : (y m d day : ℕ) → day_of y m d ≡ Some day → IsDay day
is_day y m d day e =
    chosen (is_year_month_day y m d) _ _ _ e
    (λ real is. let same : day_number y m d ≡ day = (cc) in subst IsDay same (number_holds y m d (grind (arith, nat_tests))))
    (λ no is. absurd (cc))

is_date : (w : List ℕ) (day : ℕ) → date_of w ≡ Some day → IsDay day
is_date (a ∷ b ∷ c ∷ d ∷ x ∷ e ∷ f ∷ y ∷ g ∷ h ∷ []) day is =
    chosen (x == 45 && y == 45) _ _ _ is
    (λ dashes found. option_and_then_some _ (four_digits a b c d) day found (λ year was next.
    option_and_then_some _ (two_digits e f) day next (λ month had last.
    option_and_then_some (day_of year month) (two_digits g h) day last (λ date got end. is_day year month date day end))))
    (λ no found. absurd (cc))
is_date _ day is = absurd (cc)

-- the whole
after_time_can : (a : Bool) (day : ℕ) (t e : Option ℕ) (ws : List (List ℕ)) (s : Stamp) → IsDay day → IfSome t (λ c. c < 1440) → IfSome e (λ c. c < 1440) → IfNone t (e ≡ None) → after_time a day t e ws ≡ Some s → CanPrint s
after_time_can a day t e ws s real ht he hn h =
    mapped _ (marks_from (None, None) ws) s h (λ m was is.
    let are = marks_small (None, None) ws m (tt, tt) was in
    subst CanPrint is (record { day = real; time = ht; end_time = he; end_of_start = hn; repeater = counted_small m.0 are.0; delay = are.1; last = tt; last_time = tt }))

timed_can : (a : Bool) (day : ℕ) (w : List ℕ) (ws : List (List ℕ)) (o : Option (ℕ × Option ℕ)) (s : Stamp) → IsDay day → IfSome o AreTimes → timed a day w ws o ≡ Some s → CanPrint s
timed_can a day w ws None s real are h = after_time_can a day None None (w ∷ ws) s real tt tt refl h
timed_can a day w ws (Some t) s real are h = after_time_can a day (Some t.0) t.1 ws s real are.0 are.1 tt h

times_if : (w : List ℕ) (o : Option (ℕ × Option ℕ)) → times_of w ≡ o → IfSome o AreTimes
times_if w None e = tt
times_if w (Some t) e = times_at_small w (position is_dash w) t e

after_name_can : (a : Bool) (day : ℕ) (ws : List (List ℕ)) (s : Stamp) → IsDay day → after_name a day ws ≡ Some s → CanPrint s
after_name_can a day [] s real h = after_time_can a day None None [] s real tt tt refl h
after_name_can a day (w ∷ ws) s real h = timed_can a day w ws (times_of w) s real (times_if w (times_of w) refl) h

after_date_can : (a : Bool) (day : ℕ) (ws : List (List ℕ)) (s : Stamp) → IsDay day → after_date a day ws ≡ Some s → CanPrint s
after_date_can a day [] s real h = after_name_can a day [] s real h
after_date_can a day (w ∷ ws) s real h = chosen (is_name w) _ _ _ h (λ t e. after_name_can a day ws s real e) (λ t e. after_name_can a day (w ∷ ws) s real e)

words_can : (a : Bool) (ws : List (List ℕ)) (s : Stamp) → stamp_of_words a ws ≡ Some s → CanPrint s
words_can a [] s h = absurd (cc)
words_can a (w ∷ ws) s h = option_and_then_some _ (date_of w) s h (λ day was is. after_date_can a day ws s (is_date w day was) is)

inner_can : (a : Bool) (bs : List ℕ) (s : Stamp) → inner_of a bs ≡ Some s → CanPrint s
unfolding inner_of
inner_can a [] s h = absurd (cc)
inner_can a (b ∷ bs) s h = chosen (is_space b) _ _ _ h (λ t e. absurd (cc)) (λ t e. words_can a (words (b ∷ bs)) s e)

range_can : (s f t : Stamp) → CanPrint f → CanPrint t → s ≡ with_last f t → CanPrint s
range_can s f t hf ht e = subst CanPrint (sym e) (record { day = hf.day; time = hf.time; end_time = hf.end_time; end_of_start = hf.end_of_start; repeater = hf.repeater; delay = hf.delay; last = ht.day; last_time = ht.time })

pub can_print : (bytes : List ℕ) (s : Stamp) → IsStamp bytes s → CanPrint s
can_print bytes s (inl one) = inner_can s.active one.inner s one.stamp_is
can_print bytes s (inr two) = range_can s two.first two.second (inner_can two.first.active two.first_is.inner two.first two.first_is.stamp_is) (inner_can two.second.active two.second_is.inner two.second two.second_is.stamp_is) two.stamp_is

pub stamp_bounds : (r : Option (Stamp × ℕ)) (bytes : List ℕ) → r ≡ stamp_of bytes → IfSome r (λ found. CanPrint found.0)
stamp_bounds None bytes e = tt
stamp_bounds (Some found) bytes e = can_print (take found.1 bytes) found.0 (stamp_found bytes found.0 found.1 (sym e)).1

pub single_bounds : (r : Option (Stamp × ℕ)) (bytes : List ℕ) → r ≡ single_of bytes → IfSome r (λ found. CanPrint found.0)
single_bounds None bytes e = tt
single_bounds (Some found) bytes e = can_print (take found.1 bytes) found.0 (inl (single_found bytes found.0 found.1 (sym e)).1)
