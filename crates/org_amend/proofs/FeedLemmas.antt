-- Bytes without a line feed, and lines in which some are put.
use Rattle.std.proofs.Common.{◌≡◌, ◌∙◌, inl, inr, ℕ, zero, suc, ◌+◌, ◌-◌, ◌/◌, ◌%◌, ◌<◌, ◌==◌, Bool, true, false, cond, List, [], ◌∷◌, ◌++◌, length, take, refl, sym, ap, subst, arith, codes, length-append}
use Rattle.std.specs.Prelude.{decimal, nat_lt, if◌then◌else◌}
use Rattle.std.specs.Fmt.{digit_glyph, digits, digits_onto}
use Rattle.std.specs.List.{concat, list_any, onto_first}
use Rattle.std.proofs.lemmas.Bool.{cases_Bool, ne_eqb}
use Rattle.org_amend.specs.Clocks.{end_text, hours_text, moment_stamp}
use Rattle.org_cal.specs.Parts.{month_day_of, month_of, weekday_of, year_of}
use Rattle.org_cal.specs.Texts.{date_text, day_name, four, time_text, two}
use Rattle.org_cal.specs.declared.moment.Moment.{Moment}
use Rattle.org_class.specs.Sections.{ends_line}
use Rattle.org_lines.specs.Cuts.{lines}
use Rattle.org_lines.proofs.LineLemmas.{concat-lines}
use Rattle.org_stamp.specs.Print.{stamp_text}

-- a line feed is among the bytes
abbrev pub feeds : List ℕ → Bool
feeds bs = list_any (λ b. b == 10) bs

pub none_in : (a b : List ℕ) → feeds a ≡ false → feeds b ≡ false → feeds (a ++ b) ≡ false
none_in [] b h k = k
none_in (x ∷ a) b h k = elim (cases_Bool (x == 10)) [
  | inl e ↦ absurd (let wrong : true ≡ false = rw e at h in cc)
  | inr e ↦ rw e (none_in a b (rw e at h) k)
]

one_more : (x : ℕ) (a : List ℕ) → (x == 10) ≡ false → feeds a ≡ false → feeds (x ∷ a) ≡ false
one_more x a e h = rw e h

-- numbers, days and times have none

two_has : (n : ℕ) → feeds (two n) ≡ false
two_has n = one_more (48 + n / 10) ((48 + n % 10) ∷ []) (ne_eqb (48 + n / 10) 10 (λ e. omega (arith, e))) (one_more (48 + n % 10) [] (ne_eqb (48 + n % 10) 10 (λ e. omega (arith, e))) refl)

glyph : (d : ℕ) → (digit_glyph false d == 10) ≡ false
glyph d = by (nat_lt d 10)
  where
    by : (t : Bool) → (cond t (48 + d) (87 + d) == 10) ≡ false
    by true = ne_eqb (48 + d) 10 (λ e. omega (arith, e))
    by false = ne_eqb (87 + d) 10 (λ e. omega (arith, e))

onto : (k n : ℕ) (behind : List ℕ) → feeds behind ≡ false → feeds (digits_onto k 10 false n behind) ≡ false
onto zero n behind h = h
onto (suc k) n behind h =
    let more : feeds (digit_glyph false (n % 10) ∷ behind) ≡ false = one_more (digit_glyph false (n % 10)) behind (glyph (n % 10)) h in
    elim (cases_Bool (n / 10 == 0)) [
      | inl e ↦ rw e more
      | inr e ↦ rw e (onto k (n / 10) (digit_glyph false (n % 10) ∷ behind) more)
    ]

decimal_has : (n : ℕ) → feeds (decimal n) ≡ false
unfolding digits
decimal_has n = onto 64 n [] refl

time_has : (c : ℕ) → feeds (time_text c) ≡ false
time_has c = none_in (two (c / 60)) (58 ∷ two (c % 60)) (two_has (c / 60)) (two_has (c % 60))

date_has : (day : ℕ) → feeds (date_text day) ≡ false
date_has day =
    let y = year_of day in
    let m = two (month_of day) in
    let d = two (month_day_of day) in
    let four_has : feeds (four y) ≡ false = none_in (two (y / 100)) (two (y % 100)) (two_has (y / 100)) (two_has (y % 100)) in
    none_in (four y) (45 ∷ m ++ 45 ∷ d) four_has (none_in m (45 ∷ d) (two_has (month_of day)) (two_has (month_day_of day)))

chosen : (t : Bool) (a b : List ℕ) → feeds a ≡ false → feeds b ≡ false → feeds (cond t a b) ≡ false
chosen true a b h k = h
chosen false a b h k = k

name_has : (n : ℕ) → feeds (day_name n) ≡ false
name_has n =
    chosen (n == 0) (codes "Mon") _ refl
    (chosen (n == 1) (codes "Tue") _ refl
    (chosen (n == 2) (codes "Wed") _ refl
    (chosen (n == 3) (codes "Thu") _ refl
    (chosen (n == 4) (codes "Fri") _ refl
    (chosen (n == 5) (codes "Sat") (codes "Sun") refl refl)))))

stamp_has : (now : Moment) → feeds (stamp_text (moment_stamp now)) ≡ false
stamp_has now =
    let day = date_text now.day ++ 32 ∷ day_name (weekday_of now.day) in
    let day_has : feeds day ≡ false = none_in (date_text now.day) (32 ∷ day_name (weekday_of now.day)) (date_has now.day) (name_has (weekday_of now.day)) in
    let times = (32 ∷ (time_text now.minute ++ [])) ++ ([] ++ []) in
    let times_have : feeds times ≡ false = none_in (32 ∷ (time_text now.minute ++ [])) ([] ++ []) (none_in (time_text now.minute) [] (time_has now.minute) refl) refl in
    none_in (91 ∷ (day ++ (times ++ 93 ∷ []))) [] (none_in day (times ++ 93 ∷ []) day_has (none_in times (93 ∷ []) times_have refl)) refl

hours_have : (minutes : ℕ) → feeds (hours_text minutes) ≡ false
hours_have minutes =
    none_in (if nat_lt (minutes / 60) 10 then codes " " else []) (decimal (minutes / 60) ++ 58 ∷ two (minutes % 60)) (chosen (nat_lt (minutes / 60) 10) (codes " ") [] refl refl)
    (none_in (decimal (minutes / 60)) (58 ∷ two (minutes % 60)) (decimal_has (minutes / 60)) (two_has (minutes % 60)))

pub end_has : (now : Moment) (minutes : ℕ) → feeds (end_text now minutes) ≡ false
end_has now minutes =
    none_in (codes "--") (stamp_text (moment_stamp now) ++ (codes " => " ++ hours_text minutes)) refl
    (none_in (stamp_text (moment_stamp now)) (codes " => " ++ hours_text minutes) (stamp_has now) (hours_have minutes))

-- what stands before the last byte of a line has none

pub line_feeds : (t l : List ℕ) (ls : List (List ℕ)) → lines t ≡ l ∷ ls → feeds (take (length l - 1) l) ≡ false
line_feeds [] l ls e = absurd cc
line_feeds (b ∷ bs) l ls e = elim (cases_Bool (b == 10)) [
  | inl feed ↦ (
      let is : (b ∷ []) ∷ lines bs ≡ l ∷ ls = rw feed at e in
      let front : b ∷ [] ≡ l = cc in
      subst (λ x. feeds (take (length x - 1) x) ≡ false) front refl)
  | inr other ↦ onto_line (lines bs) refl (let is : onto_first b (lines bs) ≡ l ∷ ls = rw other at e in is) other (λ x xs k. line_feeds bs x xs k)
]
  where
    onto_line : (xs : List (List ℕ)) → lines bs ≡ xs → onto_first b xs ≡ l ∷ ls → (b == 10) ≡ false → ((x : List ℕ) (rest : List (List ℕ)) → lines bs ≡ x ∷ rest → feeds (take (length x - 1) x) ≡ false) →
        feeds (take (length l - 1) l) ≡ false
    onto_line [] is e other again =
        let front : b ∷ [] ≡ l = cc in
        subst (λ x. feeds (take (length x - 1) x) ≡ false) front refl
    onto_line ([] ∷ xs) is e other again =
        let front : b ∷ [] ≡ l = cc in
        subst (λ x. feeds (take (length x - 1) x) ≡ false) front refl
    onto_line ((y ∷ ys) ∷ xs) is e other again =
        let front : b ∷ y ∷ ys ≡ l = cc in
        let size : length (b ∷ y ∷ ys) - 1 ≡ suc (length (y ∷ ys) - 1) = omega arith in
        let long : feeds (take (suc (length (y ∷ ys) - 1)) (b ∷ y ∷ ys)) ≡ false = one_more b (take (length (y ∷ ys) - 1) (y ∷ ys)) other (again (y ∷ ys) xs is) in
        subst (λ x. feeds (take (length x - 1) x) ≡ false) front (subst (λ k. feeds (take k (b ∷ y ∷ ys)) ≡ false) (sym size) long)

pub none_taken : (n : ℕ) (a : List ℕ) → feeds a ≡ false → feeds (take n a) ≡ false
none_taken zero a h = refl
none_taken (suc n) [] h = refl
none_taken (suc n) (x ∷ a) h = elim (cases_Bool (x == 10)) [
  | inl e ↦ absurd (let wrong : true ≡ false = rw e at h in cc)
  | inr e ↦ one_more x (take n a) e (none_taken n a (rw e at h))
]

-- bytes without a line feed before a text belong to its first line

pub put_before_line : (p y l : List ℕ) (ls : List (List ℕ)) → feeds p ≡ false → lines y ≡ l ∷ ls → lines (p ++ y) ≡ (p ++ l) ∷ ls
put_before_line [] y l ls h e = e
put_before_line (b ∷ p) y l ls h e = elim (cases_Bool (b == 10)) [
  | inl feed ↦ absurd (let wrong : true ≡ false = rw feed at h in cc)
  | inr other ↦ rw other (ap (onto_first b) (put_before_line p y l ls (rw other at h) e))
]

pub only_part : (p : List ℕ) → feeds p ≡ false → 0 < length p → lines p ≡ p ∷ []
only_part [] h some = absurd (omega (arith, some))
only_part (b ∷ []) h some = elim (cases_Bool (b == 10)) [
  | inl feed ↦ absurd (let wrong : true ≡ false = rw feed at h in cc)
  | inr other ↦ rw other refl
]
only_part (b ∷ c ∷ p) h some = elim (cases_Bool (b == 10)) [
  | inl feed ↦ absurd (let wrong : true ≡ false = rw feed at h in cc)
  | inr other ↦ rw other (ap (onto_first b) (only_part (c ∷ p) (rw other at h) (omega arith)))
]

-- bytes without one don't end a line
pub feeds_end : (w : List ℕ) → 0 < length w → feeds w ≡ false → ends_line w ≡ false
feeds_end [] some h = absurd (omega (arith, some))
feeds_end (b ∷ []) some h = elim (cases_Bool (b == 10)) [
  | inl feed ↦ absurd (let wrong : true ≡ false = rw feed at h in cc)
  | inr other ↦ other
]
feeds_end (b ∷ c ∷ w) some h = elim (cases_Bool (b == 10)) [
  | inl feed ↦ absurd (let wrong : true ≡ false = rw feed at h in cc)
  | inr other ↦ feeds_end (c ∷ w) (omega arith) (rw other at h)
]

-- and they can be taken from it
pub without_front : (p y l : List ℕ) (ls : List (List ℕ)) → feeds p ≡ false → 0 < length y → lines (p ++ y) ≡ (p ++ l) ∷ ls → lines y ≡ l ∷ ls
without_front [] y l ls h some e = e
without_front (b ∷ p) y l ls h some e = elim (cases_Bool (b == 10)) [
  | inl feed ↦ absurd (let wrong : true ≡ false = rw feed at h in cc)
  | inr other ↦ without_front p y l ls (rw other at h) some (onto_back (lines (p ++ y)) refl (let is : onto_first b (lines (p ++ y)) ≡ (b ∷ (p ++ l)) ∷ ls = rw other at e in is))
]
  where
    onto_back : (xs : List (List ℕ)) → lines (p ++ y) ≡ xs → onto_first b xs ≡ (b ∷ (p ++ l)) ∷ ls → lines (p ++ y) ≡ (p ++ l) ∷ ls
    onto_back [] is e =
        let text : p ++ y ≡ [] = sym (concat-lines (p ++ y)) ∙ ap concat is in
        absurd (omega (arith, some, length-append p y, ap length text))
    onto_back (x ∷ xs) is e =
        let first : x ≡ p ++ l = cc in
        let rest : xs ≡ ls = cc in
        is ∙ (ap (λ f. f ∷ xs) first ∙ ap (λ r. (p ++ l) ∷ r) rest)
