-- Days are named as they are spelled.
use Rattle.std.proofs.Common.{◌≡◌, ℕ, ◌-◌, ◌≤◌, Bool, true, false, ◌&&◌, ◌==◌, nat_le, if◌then◌else◌, List, [], ◌∷◌, ◌++◌, length, drop, slice_index, refl, sym, subst, ◌∙◌, ap, arith, codes, pos, neg_ℤ, ◌+ℤ◌}
use Rattle.std.specs.Prelude.{Option, Some, None, bytes_eq}
use Rattle.std.specs.Str.Parse.{digits_value}
use Rattle.std.proofs.lemmas.Bool.Decides.{nat_tests}
use Rattle.std.proofs.lemmas.Slice.Eq.{bytes_eq-Decides}
use Rattle.jiff_core.proofs.SignedLemmas.{signed_arith}
use Rattle.org_cal.specs.Days.{IsDay}
use Rattle.org_cal.specs.declared.unit.Unit.{Unit as TimeUnit}
use Rattle.org_cal.specs.declared.unit.Unit.TheVariants.{Day, Week, Month, Year}
use Rattle.org_cal.proofs.TextLemmas.{chosen}
use Rattle.org_expression.specs.Decimal.{front_digits, read_on}
use Rattle.org_expression.specs.Laws.{DaysAreNamed}
use Rattle.org_expression.specs.Spelled.{IsCount, IsLetter, DayLetter, WeekLetter, MonthLetter, YearLetter, NamesDay, Today, Tomorrow, After, Before, NoDigit, earlier, later}
use Rattle.org_expression.specs.Times.{counted_day, day_at, day_moved, is_time, last_unit, named_day, relative_day, unit_of}
use Rattle.org_expression.proofs.Decimals.{drop_front, front_again, front_digits_are, read_is, take_digits}
use Rattle.org_expression.proofs.Moved.{added_from, added_to}

-- what is read is named

letter_is : (b : ℕ) (unit : TimeUnit) → unit_of b ≡ Some unit → IsLetter (b ∷ []) unit
letter_is b unit e =
    chosen (b == 100) _ _ _ e (λ is same. it b 100 Day unit is same DayLetter)
    (λ no e. chosen (b == 119) _ _ _ e (λ is same. it b 119 Week unit is same WeekLetter)
    (λ no e. chosen (b == 109) _ _ _ e (λ is same. it b 109 Month unit is same MonthLetter)
    (λ no e. chosen (b == 121) _ _ _ e (λ is same. it b 121 Year unit is same YearLetter)
    (λ no e. absurd (cc)))))
  where
    it : (b c : ℕ) (u v : TimeUnit) → (b == c) ≡ true → Some u ≡ Some v → IsLetter (c ∷ []) u → IsLetter (b ∷ []) v
    it b c u v is same letter =
        let code : c ≡ b = grind (arith, nat_tests) in
        let unit : u ≡ v = cc in
        subst (λ k. IsLetter (k ∷ []) v) code (subst (IsLetter (c ∷ [])) unit letter)

abbrev IsEnd : List ℕ → TimeUnit → Type 0
IsEnd tail unit = (letter : List ℕ) × (tail ≡ letter ++ codes ">") × IsLetter letter unit

end_is : (tail : List ℕ) (unit : TimeUnit) → last_unit tail ≡ Some unit → IsEnd tail unit
end_is [] unit e = absurd (cc)
end_is (a ∷ []) unit e = absurd (cc)
end_is (a ∷ b ∷ []) unit e =
    chosen (b == 62) _ _ _ e
    (λ close is. (a ∷ [], ap (λ c. a ∷ c ∷ []) (grind (arith, nat_tests)), letter_is a unit is))
    (λ no is. absurd (cc))
end_is (a ∷ b ∷ c ∷ rest) unit e = absurd (cc)

record IsCounted (today : ℕ) (is_back : Bool) (bs : List ℕ) (day : ℕ) : Type 0 where
  pub digits : List ℕ
  pub letter : List ℕ
  pub unit : TimeUnit
  pub text_is : bs ≡ digits ++ (letter ++ codes ">")
  pub count_is : IsCount digits
  pub letter_is : IsLetter letter unit
  pub moved : day_moved is_back (digits_value 10 digits) unit today ≡ Some day

counted_by : (today : ℕ) (is_back : Bool) (bs : List ℕ) (day : ℕ) (o : Option TimeUnit) → last_unit (drop (length (front_digits bs)) bs) ≡ o →
    day_at today is_back (front_digits bs) o ≡ Some day → IsCounted today is_back bs day
counted_by today is_back bs day None tail e = absurd (cc)
counted_by today is_back bs day (Some unit) tail e =
    let digits = front_digits bs in
    chosen (nat_le 1 (length digits) && nat_le (length digits) 4) _ _ _ e
    (λ fits found.
    let end = end_is (drop (length digits) bs) unit tail in
    record {
      digits = digits;
      letter = end.0;
      unit = unit;
      text_is = take_digits bs ∙ ap (λ t. digits ++ t) end.1;
      count_is = (grind (arith, nat_tests), grind (arith, nat_tests), front_digits_are bs);
      letter_is = end.2;
      moved = ap (λ n. day_moved is_back n unit today) (sym (read_is 0 digits (front_digits_are bs))) ∙ found;
    })
    (λ no found. absurd (cc))

counted : (today : ℕ) (is_back : Bool) (bs : List ℕ) (day : ℕ) → counted_day today is_back bs ≡ Some day → IsCounted today is_back bs day
counted today is_back bs day e = counted_by today is_back bs day (last_unit (drop (length (front_digits bs)) bs)) refl e

back_amount : (n : ℕ) → neg_ℤ (pos n) +ℤ pos n ≡ pos 0
back_amount n = omega (arith, signed_arith)

relative : (today day : ℕ) (text bs : List ℕ) → IsDay today → text ≡ 60 ∷ bs → relative_day today bs ≡ Some day → NamesDay today text day
relative today day text [] h is e = absurd (cc)
relative today day text (sign ∷ bs) h is e =
    chosen (sign == 43) _ _ _ e
    (λ plus found.
    let c = counted today false bs day found in
    let code : sign ≡ 43 = grind (arith, nat_tests) in
    After c.digits c.letter c.unit (is ∙ (ap (λ k. 60 ∷ k ∷ bs) code ∙ ap (λ t. 60 ∷ 43 ∷ t) c.text_is)) c.count_is c.letter_is
    (added_to false (digits_value 10 c.digits) c.unit today day (later c.digits) h refl c.moved))
    (λ other e. chosen (sign == 45) _ _ _ e
    (λ minus found.
    let c = counted today true bs day found in
    let code : sign ≡ 45 = grind (arith, nat_tests) in
    Before c.digits c.letter c.unit (is ∙ (ap (λ k. 60 ∷ k ∷ bs) code ∙ ap (λ t. 60 ∷ 45 ∷ t) c.text_is)) c.count_is c.letter_is
    (added_to true (digits_value 10 c.digits) c.unit today day (earlier c.digits) h (back_amount (digits_value 10 c.digits)) c.moved))
    (λ no e. absurd (cc)))

both : (a b : Bool) → (a && b) ≡ true → (a ≡ true) × (b ≡ true)
both true b e = (refl, e)
both false b e = absurd (cc)

-- a time begins with <
opened : (text : List ℕ) → is_time text ≡ true → text ≡ 60 ∷ drop 1 text
opened [] e = absurd (cc)
opened (b ∷ bs) e =
    let front = both (nat_le 2 (length (b ∷ bs)) && (b == 60)) (slice_index (b ∷ bs) (length (b ∷ bs) - 1) == 62) e in
    let first = (both (nat_le 2 (length (b ∷ bs))) (b == 60) front.0).1 in
    ap (λ k. k ∷ bs) (let is : b ≡ 60 = grind (arith, nat_tests) in is)

named : (today day : ℕ) (text : List ℕ) → IsDay today → is_time text ≡ true → named_day today text ≡ Some day → NamesDay today text day
named today day text h time e =
    chosen (bytes_eq text (codes "<today>")) _ _ _ e
    (λ is found. Today ((bytes_eq-Decides text (codes "<today>")).0 is) (let same : today ≡ day = cc in sym same))
    (λ no e. chosen (bytes_eq text (codes "<tomorrow>")) _ _ _ e
    (λ is found. Tomorrow ((bytes_eq-Decides text (codes "<tomorrow>")).0 is) (added_to false 1 Day today day (pos 1) h refl found))
    (λ no found. relative today day text (drop 1 text) h (opened text time) found))

-- what is named is read

letter_end : (letter : List ℕ) (unit : TimeUnit) → IsLetter letter unit → NoDigit (letter ++ codes ">") × (last_unit (letter ++ codes ">") ≡ Some unit)
letter_end letter unit DayLetter = (refl, refl)
letter_end letter unit WeekLetter = (refl, refl)
letter_end letter unit MonthLetter = (refl, refl)
letter_end letter unit YearLetter = (refl, refl)

few_digits : (l : ℕ) (x : Option ℕ) → 1 ≤ l → l ≤ 4 → (if nat_le 1 l && nat_le l 4 then x else None) ≡ x
few_digits l x some few = grind (arith, nat_tests)

counted_back : (today : ℕ) (is_back : Bool) (digits letter : List ℕ) (unit : TimeUnit) → IsCount digits → IsLetter letter unit →
    counted_day today is_back (digits ++ (letter ++ codes ">")) ≡ day_moved is_back (digits_value 10 digits) unit today
counted_back today is_back digits letter unit count is =
    let bs = digits ++ (letter ++ codes ">") in
    let end = letter_end letter unit is in
    let front : front_digits bs ≡ digits = front_again digits (letter ++ codes ">") count.2 end.0 in
    ap (λ t. day_at today is_back t (last_unit (drop (length t) bs))) front
    ∙ (ap (λ t. day_at today is_back digits (last_unit t)) (drop_front digits (letter ++ codes ">"))
    ∙ (ap (day_at today is_back digits) end.1
    ∙ (few_digits (length digits) (day_moved is_back (read_on 0 digits) unit today) count.0 count.1
    ∙ ap (λ n. day_moved is_back n unit today) (read_is 0 digits count.2))))

back : (today day : ℕ) (text : List ℕ) → NamesDay today text day → named_day today text ≡ Some day
back today day text (Today is same) = ap (named_day today) is ∙ ap Some (sym same)
back today day text (Tomorrow is added) = ap (named_day today) is ∙ added_from false 1 Day today day (pos 1) refl added
back today day text (After digits letter unit is count letter_is added) =
    ap (named_day today) is
    ∙ (counted_back today false digits letter unit count letter_is ∙ added_from false (digits_value 10 digits) unit today day (later digits) refl added)
back today day text (Before digits letter unit is count letter_is added) =
    ap (named_day today) is
    ∙ (counted_back today true digits letter unit count letter_is
    ∙ added_from true (digits_value 10 digits) unit today day (earlier digits) (back_amount (digits_value 10 digits)) added)

pub days_are_named : DaysAreNamed
days_are_named today day text h time = (named today day text h time, back today day text)
