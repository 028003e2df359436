-- An effort is read just where it is spelled.
use Rattle.std.proofs.Common.{◌≡◌, ℕ, zero, suc, ◌+◌, ◌*◌, ◌/◌, ◌<◌, ◌≤◌, inl, inr, true, false, ◌==◌, nat_le, nat_lt, if◌then◌else◌, List, [], ◌∷◌, ◌++◌, length, take, drop, refl, sym, subst, ◌∙◌, ap, arith, codes}
use Rattle.std.specs.Prelude.{Some, None, bytes_eq}
use Rattle.std.specs.Char.{is_ascii_digit}
use Rattle.std.specs.List.{prefix_len}
use Rattle.std.specs.Option.{option_and_then, option_map}
use Rattle.std.specs.Str.{all_ascii_digits}
use Rattle.std.specs.Str.Parse.{digits_value}
use Rattle.std.proofs.lemmas.Bool.{cases_Bool}
use Rattle.std.proofs.lemmas.Bool.Decides.{nat_tests}
use Rattle.std.proofs.lemmas.List.{take-append-drop}
use Rattle.std.proofs.lemmas.Option.{option_and_then_some}
use Rattle.std.proofs.lemmas.Slice.Eq.{bytes_eq-Decides}
use Rattle.org_base.specs.Words.{is_space}
use Rattle.org_cal.specs.Texts.{two, two_digits}
use Rattle.org_cal.proofs.TextLemmas.{chosen, two_digits-two, two_is}
use Rattle.org_stamp.specs.Pair.{past_spaces}
use Rattle.org_stamp.specs.Spaced.{IsGap}
use Rattle.org_stamp.proofs.SpacedLemmas.{drop_front, gap_front, nil_right, take_front}
use Rattle.org_stamp.proofs.SpelledMarkLemmas.{mapped}
use Rattle.org_drawer.specs.Effort.{after_digits, effort_of, number_of, sixtieths, unit_minutes, units}
use Rattle.org_drawer.specs.Laws.{EffortsAreSpelled}
use Rattle.org_drawer.specs.Spelled.{IsNumber, IsUnit, MinuteUnit, HourUnit, DayUnit, WeekUnit, MonthUnit, YearUnit, IsEffort, OfHours, OfMinutes, OfUnits}

-- nothing, or no digit first
abbrev NoDigit : List ℕ → Type 0
NoDigit [] = Unit {0}
NoDigit (b ∷ bs) = is_ascii_digit b ≡ false

front_digits : (bs : List ℕ) → (all_ascii_digits (take (prefix_len is_ascii_digit bs) bs) ≡ true) × NoDigit (drop (prefix_len is_ascii_digit bs) bs)
front_digits [] = (refl, tt)
front_digits (b ∷ bs) = elim (cases_Bool (is_ascii_digit b)) [
  | inl digit ↦
      let more : prefix_len is_ascii_digit (b ∷ bs) ≡ suc (prefix_len is_ascii_digit bs) = rw digit (omega arith) in
      let rest = front_digits bs in
      (subst (λ k. all_ascii_digits (take k (b ∷ bs)) ≡ true) (sym more) (rw digit rest.0), subst (λ k. NoDigit (drop k (b ∷ bs))) (sym more) rest.1)
  | inr other ↦
      let none : prefix_len is_ascii_digit (b ∷ bs) ≡ 0 = rw other refl in
      (subst (λ k. all_ascii_digits (take k (b ∷ bs)) ≡ true) (sym none) refl, subst (λ k. NoDigit (drop k (b ∷ bs))) (sym none) other)
]

front_again : (ds rest : List ℕ) → all_ascii_digits ds ≡ true → NoDigit rest → prefix_len is_ascii_digit (ds ++ rest) ≡ length ds
front_again [] [] h none = refl
front_again [] (b ∷ bs) h none = rw none refl
front_again (d ∷ ds) rest h none = elim (cases_Bool (is_ascii_digit d)) [
  | inl digit ↦ rw digit (let more = front_again ds rest (rw digit at h) none in omega (arith, more))
  | inr other ↦ absurd (let wrong : false ≡ true = rw other at h in cc)
]

effort_split : (ds rest : List ℕ) → 1 ≤ length ds → all_ascii_digits ds ≡ true → NoDigit rest → effort_of (ds ++ rest) ≡ after_digits ds rest
effort_split ds rest some h none =
    let text = ds ++ rest in
    let some_digits : (length ds == 0) ≡ false = grind (arith, nat_tests) in
    ap (λ c. if c == 0 then None else after_digits (take c text) (drop c text)) (front_again ds rest h none)
    ∙ (ap (λ t. if t then None else after_digits (take (length ds) text) (drop (length ds) text)) some_digits
    ∙ (ap (λ t. after_digits t (drop (length ds) text)) (take_front ds rest) ∙ ap (after_digits ds) (drop_front ds rest)))

-- what is read is spelled

number_is : (most : ℕ) (ds : List ℕ) (n : ℕ) → 1 ≤ length ds → all_ascii_digits ds ≡ true → number_of most ds ≡ Some n → IsNumber most ds n
number_is most ds n some h e =
    chosen (nat_le (length ds) most) _ _ _ e
    (λ few is. record { some = some; few = grind (arith, nat_tests); all_digits = h; n_is = let same : digits_value 10 ds ≡ n = (cc) in sym same })
    (λ many is. absurd (cc))

abbrev IsSixtieths : List ℕ → ℕ → Type 0
IsSixtieths text m = (m < 60) × (text ≡ two m)

sixtieths_is : (text : List ℕ) (m : ℕ) → sixtieths text ≡ Some m → IsSixtieths text m
sixtieths_is [] m e = absurd (cc)
sixtieths_is (a ∷ []) m e = absurd (cc)
sixtieths_is (a ∷ b ∷ []) m e =
    option_and_then_some _ (two_digits a b) m e (λ n was next.
    chosen (nat_lt n 60) _ _ _ next
    (λ low is.
    let same : n ≡ m = (cc) in
    let r = two_is a b n was in
    (subst (λ k. k < 60) same (grind (arith, nat_tests)), ap (λ k. k ∷ b ∷ []) r.high ∙ (ap (λ k. (48 + n / 10) ∷ k ∷ []) r.low ∙ ap two same)))
    (λ high is. absurd (cc)))
sixtieths_is (a ∷ b ∷ c ∷ rest) m e = absurd (cc)

named : (unit word : List ℕ) (n m : ℕ) → bytes_eq unit word ≡ true → Some n ≡ Some m → IsUnit word n → IsUnit unit m
named unit word n m is same u =
    let word_is : unit ≡ word = (bytes_eq-Decides unit word).0 is in
    let minutes : n ≡ m = (cc) in
    subst (λ w. IsUnit w m) (sym word_is) (subst (IsUnit word) minutes u)

unit_is : (unit : List ℕ) (m : ℕ) → unit_minutes unit ≡ Some m → IsUnit unit m
unit_is unit m e =
    chosen (bytes_eq unit (codes "min")) _ _ _ e (λ is same. named unit _ 1 m is same MinuteUnit)
    (λ other e. chosen (bytes_eq unit (codes "h")) _ _ _ e (λ is same. named unit _ 60 m is same HourUnit)
    (λ other e. chosen (bytes_eq unit (codes "d")) _ _ _ e (λ is same. named unit _ 1440 m is same DayUnit)
    (λ other e. chosen (bytes_eq unit (codes "w")) _ _ _ e (λ is same. named unit _ 10_080 m is same WeekUnit)
    (λ other e. chosen (bytes_eq unit (codes "m")) _ _ _ e (λ is same. named unit _ 43_200 m is same MonthUnit)
    (λ other e. chosen (bytes_eq unit (codes "y")) _ _ _ e (λ is same. named unit _ 525_960 m is same YearUnit)
    (λ other e. absurd (cc)))))))

after_is : (text ds rest : List ℕ) (m : ℕ) → text ≡ ds ++ rest → 1 ≤ length ds → all_ascii_digits ds ≡ true → after_digits ds rest ≡ Some m → IsEffort text m
after_is text ds [] m split some h e =
    let whole : ds ≡ text = sym (split ∙ nil_right ds) in
    OfMinutes (subst (λ t. IsNumber 6 t m) whole (number_is 6 ds m some h e))
after_is text ds (b ∷ rest) m split some h e =
    chosen (b == 58) _ _ _ e
    (λ colon found. option_and_then_some _ (number_of 6 ds) m found (λ hour was next.
    mapped _ (sixtieths rest) m next (λ minute had is.
    let s = sixtieths_is rest minute had in
    let b_is : b ≡ 58 = grind (arith, nat_tests) in
    OfHours ds hour minute (split ∙ (ap (λ c. ds ++ c ∷ rest) b_is ∙ ap (λ t. ds ++ 58 ∷ t) s.1)) (number_is 6 ds hour some h was) s.0 (sym is))))
    (λ other found. option_and_then_some _ (number_of 4 ds) m found (λ n was next.
    mapped _ (unit_minutes (past_spaces (b ∷ rest))) m next (λ each had is.
    let gap = take (prefix_len is_space (b ∷ rest)) (b ∷ rest) in
    OfUnits ds gap (past_spaces (b ∷ rest)) n each
    (split ∙ ap (λ t. ds ++ t) (sym (take-append-drop (prefix_len is_space (b ∷ rest)) (b ∷ rest))))
    (number_is 4 ds n some h was) (gap_front (b ∷ rest)) (unit_is _ each had) (sym is))))

effort_is : (text : List ℕ) (m : ℕ) → effort_of text ≡ Some m → IsEffort text m
effort_is text m e =
    let count = prefix_len is_ascii_digit text in
    let front = front_digits text in
    chosen (count == 0) _ _ _ e
    (λ none is. absurd (cc))
    (λ some is. after_is text (take count text) (drop count text) m (sym (take-append-drop count text)) (long count text refl (grind (arith, nat_tests))) front.0 is)
  where
    long : (count : ℕ) (text : List ℕ) → count ≡ prefix_len is_ascii_digit text → 1 ≤ count → 1 ≤ length (take count text)
    long count [] is some = absurd (omega (arith, is, some))
    long zero (b ∷ bs) is some = absurd (omega (arith, some))
    long (suc count) (b ∷ bs) is some = omega arith

-- what is spelled is read

number_back : (most : ℕ) (ds : List ℕ) (n : ℕ) → IsNumber most ds n → number_of most ds ≡ Some n
number_back most ds n h =
    let few : nat_le (length ds) most ≡ true = (let low = h.few in grind (arith, nat_tests)) in
    rw few (ap Some (sym h.n_is))

sixtieths_back : (m : ℕ) → m < 60 → sixtieths (two m) ≡ Some m
sixtieths_back m h =
    let low : nat_lt m 60 ≡ true = grind (arith, nat_tests) in
    ap (option_and_then (λ n. if nat_lt n 60 then Some n else None)) (two_digits-two m (omega (arith, h))) ∙ rw low refl

unit_back : (unit : List ℕ) (m : ℕ) → IsUnit unit m → unit_minutes unit ≡ Some m
unit_back unit m MinuteUnit = refl
unit_back unit m HourUnit = refl
unit_back unit m DayUnit = refl
unit_back unit m WeekUnit = refl
unit_back unit m MonthUnit = refl
unit_back unit m YearUnit = refl

-- a unit begins with a letter
record Lettered (unit : List ℕ) : Type 0 where
  pub letter : ℕ
  pub more : List ℕ
  pub is : unit ≡ letter ∷ more
  pub late : 97 ≤ letter

lettered : (unit : List ℕ) (m : ℕ) → IsUnit unit m → Lettered unit
lettered unit m MinuteUnit = record { letter = 109; more = codes "in"; is = refl; late = omega arith }
lettered unit m HourUnit = record { letter = 104; more = []; is = refl; late = omega arith }
lettered unit m DayUnit = record { letter = 100; more = []; is = refl; late = omega arith }
lettered unit m WeekUnit = record { letter = 119; more = []; is = refl; late = omega arith }
lettered unit m MonthUnit = record { letter = 109; more = []; is = refl; late = omega arith }
lettered unit m YearUnit = record { letter = 121; more = []; is = refl; late = omega arith }

no_space : (b : ℕ) → 97 ≤ b → is_space b ≡ false
no_space b h = grind (arith, nat_tests)

letter_first : (b : ℕ) → 97 ≤ b → (is_ascii_digit b ≡ false) × ((b == 58) ≡ false)
letter_first b h = (grind (arith, nat_tests), grind (arith, nat_tests))

space_first : (b : ℕ) → is_space b ≡ true → (is_ascii_digit b ≡ false) × ((b == 58) ≡ false)
space_first b h = (grind (arith, nat_tests), grind (arith, nat_tests))

past_gap : (gap unit : List ℕ) (m : ℕ) → IsGap gap → IsUnit unit m → past_spaces (gap ++ unit) ≡ unit
past_gap [] unit m h u =
    let l = lettered unit m u in
    ap past_spaces l.is ∙ (rw (no_space l.letter l.late) refl ∙ sym l.is)
past_gap (b ∷ bs) unit m h u = elim (cases_Bool (is_space b)) [
  | inl space ↦
      let more : prefix_len is_space (b ∷ (bs ++ unit)) ≡ suc (prefix_len is_space (bs ++ unit)) = rw space (omega arith) in
      ap (λ k. drop k (b ∷ (bs ++ unit))) more ∙ past_gap bs unit m (rw space at h) u
  | inr letter ↦ absurd (let wrong : false ≡ true = rw letter at h in cc)
]

-- what follows the number of a unit is no digit and no colon
abbrev Follows : List ℕ → Type 0
Follows [] = ⊥
Follows (b ∷ bs) = (is_ascii_digit b ≡ false) × ((b == 58) ≡ false)

follows : (gap unit : List ℕ) (m : ℕ) → IsGap gap → IsUnit unit m → Follows (gap ++ unit)
follows [] unit m h u = let l = lettered unit m u in subst Follows (sym l.is) (letter_first l.letter l.late)
follows (b ∷ bs) unit m h u = elim (cases_Bool (is_space b)) [
  | inl space ↦ space_first b space
  | inr letter ↦ absurd (let wrong : false ≡ true = rw letter at h in cc)
]

after_unit : (ds rest : List ℕ) → Follows rest → NoDigit rest × (after_digits ds rest ≡ units ds rest)
after_unit ds [] h = absurd h
after_unit ds (b ∷ bs) h = (h.0, rw h.1 refl)

effort_back : (text : List ℕ) (m : ℕ) → IsEffort text m → effort_of text ≡ Some m
effort_back text m (OfHours ds hour minute split number low is) =
    ap effort_of split
    ∙ (effort_split ds (58 ∷ two minute) number.some number.all_digits refl
    ∙ (ap (λ o. option_and_then (λ h. option_map (λ n. h * 60 + n) (sixtieths (two minute))) o) (number_back 6 ds hour number)
    ∙ (ap (option_map (λ n. hour * 60 + n)) (sixtieths_back minute low) ∙ ap Some (sym is))))
effort_back text m (OfMinutes number) =
    ap effort_of (sym (nil_right text))
    ∙ (effort_split text [] number.some number.all_digits tt ∙ number_back 6 text m number)
effort_back text m (OfUnits ds gap unit n each split number white u is) =
    let after = after_unit ds (gap ++ unit) (follows gap unit each white u) in
    ap effort_of split
    ∙ (effort_split ds (gap ++ unit) number.some number.all_digits after.0
    ∙ (after.1
    ∙ (ap (λ o. option_and_then (λ k. option_map (λ minutes. k * minutes) (unit_minutes (past_spaces (gap ++ unit)))) o) (number_back 4 ds n number)
    ∙ (ap (λ t. option_map (λ minutes. n * minutes) (unit_minutes t)) (past_gap gap unit each white u)
    ∙ (ap (option_map (λ minutes. n * minutes)) (unit_back unit each u) ∙ ap Some (sym is))))))

pub efforts_are_spelled : EffortsAreSpelled
efforts_are_spelled text minutes = (effort_is text minutes, effort_back text minutes)
