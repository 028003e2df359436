-- A day so many units later or earlier, as the calendar has it.
use Rattle.std.proofs.Common.{◌≡◌, ℕ, ◌*◌, ◌≤◌, Bool, true, false, ◌&&◌, nat_le, ◌==◌, if◌then◌else◌, List, length, drop, Option, Some, None, refl, sym, ap, ◌∙◌, arith, ℤ, pos, ◌+ℤ◌, ◌*ℤ◌}
use Rattle.std.specs.Prelude.{IfSome}
use Rattle.std.proofs.lemmas.Bool.Decides.{nat_tests}
use Rattle.jiff_core.proofs.SignedLemmas.{signed_arith}
use Rattle.org_cal.specs.Added.{IsAdded, IsMonthsAfter, month_index, day_of_month}
use Rattle.org_cal.specs.Blocks.{this_month}
use Rattle.org_cal.specs.Days.{IsDay}
use Rattle.org_cal.specs.Parts.{year_of, month_of, month_day_of}
use Rattle.org_cal.specs.declared.unit.Unit.{Unit}
use Rattle.org_cal.specs.declared.unit.Unit.TheVariants.{Hour, Day, Week, Month, Year}
use Rattle.org_cal.proofs.PartLemmas.{date_holds, parts_are}
use Rattle.org_expression.specs.Decimal.{front_digits, read_on}
use Rattle.org_expression.specs.Times.{moved, day_if, in_month, day_moved, last_unit, counted_day}

few_digits : (l : ℕ) (x y : Option ℕ) → false ≡ (l == 0) → l ≤ 4 → (if nat_le 1 l && nat_le l 4 then x else y) ≡ x
few_digits l x y some few = grind (arith, nat_tests)

-- the digits that the code cuts off, and the unit after them
pub counted_is : (today : ℕ) (is_back : Bool) (bs digits rest : List ℕ) (n : ℕ) (unit : Unit) → digits ≡ front_digits bs → rest ≡ drop (length (front_digits bs)) bs →
    false ≡ (length digits == 0) → length digits ≤ 4 → n ≡ read_on 0 digits → Some unit ≡ last_unit rest → day_moved is_back n unit today ≡ counted_day today is_back bs
counted_is today is_back bs digits rest n unit front back some few value last =
    rw (← back, ← front, ← last, value) (sym (few_digits (length digits) (day_moved is_back (read_on 0 digits) unit today) None some few))

-- an answer that is the one day that P tells, and the definition's
pub answered : (r o : Option ℕ) (P : ℕ → Type 0) → IfSome r P → ((d : ℕ) → P d → r ≡ Some d) → ((d : ℕ) → o ≡ Some d → P d) → ((d : ℕ) → P d → o ≡ Some d) → r ≡ o
answered (Some d) o P holds only to from = sym (from d holds)
answered None None P holds only to from = refl
answered None (Some d) P holds only to from = only d (to d refl)

-- a test that is passed, or that leads to no answer
passed : (b : Bool) (x d : ℕ) → (if b then Some x else None) ≡ Some d → (b ≡ true) × (x ≡ d)
passed true x d e = let same : x ≡ d = cc in (refl, same)
passed false x d e = absurd cc

some_between : (low high k x d : ℕ) → (if nat_le low k && nat_le k high then Some x else None) ≡ Some d → (low ≤ k) × (k ≤ high) × (x ≡ d)
some_between low high k x d e =
    let p = passed (nat_le low k && nat_le k high) x d e in
    let test = p.0 in
    (grind (arith, nat_tests), grind (arith, nat_tests), p.1)

between_some : (low high k x d : ℕ) → low ≤ k → k ≤ high → x ≡ d → (if nat_le low k && nat_le k high then Some x else None) ≡ Some d
between_some low high k x d a b e = grind (arith, nat_tests)

-- the integer that stands for so many later, or earlier
abbrev pub IsAmount : Bool → ℕ → ℤ → Type 0
IsAmount true n a = a +ℤ pos n ≡ pos 0
IsAmount false n a = a ≡ pos n

moved_to : (is_back : Bool) (n from k : ℕ) (a : ℤ) → IsAmount is_back n a → 1 ≤ k → moved is_back n from ≡ k → pos k ≡ pos from +ℤ a
moved_to true n from k a amount some e = omega (arith, signed_arith)
moved_to false n from k a amount some e = omega (arith, signed_arith)

moved_from : (is_back : Bool) (n from k : ℕ) (a : ℤ) → IsAmount is_back n a → 1 ≤ k → pos k ≡ pos from +ℤ a → moved is_back n from ≡ k
moved_from true n from k a amount some e = omega (arith, signed_arith)
moved_from false n from k a amount some e = omega (arith, signed_arith)

weeks : (is_back : Bool) (n : ℕ) (a : ℤ) → IsAmount is_back n a → IsAmount is_back (7 * n) (a *ℤ pos 7)
weeks true n a amount = omega (arith, signed_arith, amount)
weeks false n a amount = omega (arith, signed_arith, amount)

years : (is_back : Bool) (n : ℕ) (a : ℤ) → IsAmount is_back n a → IsAmount is_back (12 * n) (a *ℤ pos 12)
years true n a amount = omega (arith, signed_arith, amount)
years false n a amount = omega (arith, signed_arith, amount)

days_to : (is_back : Bool) (n day d : ℕ) (a : ℤ) → IsAmount is_back n a → day_if (moved is_back n day) ≡ Some d → IsDay d × (pos d ≡ pos day +ℤ a)
days_to is_back n day d a amount e =
    let b = some_between 1 3_652_059 (moved is_back n day) (moved is_back n day) d e in
    ((omega (arith, b.0, b.2), omega (arith, b.1, b.2)), moved_to is_back n day d a amount (omega (arith, b.0, b.2)) b.2)

days_from : (is_back : Bool) (n day d : ℕ) (a : ℤ) → IsAmount is_back n a → IsDay d × (pos d ≡ pos day +ℤ a) → day_if (moved is_back n day) ≡ Some d
days_from is_back n day d a amount h =
    let e = moved_from is_back n day d a amount h.0.0 h.1 in
    between_some 1 3_652_059 (moved is_back n day) (moved is_back n day) d (omega (arith, e, h.0)) (omega (arith, e, h.0)) e

months_to : (is_back : Bool) (n day d : ℕ) (a : ℤ) → IsDay day → IsAmount is_back n a → in_month (month_day_of day) (moved is_back n (this_month day)) ≡ Some d → IsMonthsAfter day a d
months_to is_back n day d a real amount e =
    let index = moved is_back n (this_month day) in
    let b = some_between 12 119_999 index (day_of_month index (month_day_of day)) d e in
    let date = date_holds day real in
    record {
      year = year_of day;
      month = month_of day;
      date = month_day_of day;
      index = index;
      real = date.0;
      base_is = date.1;
      index_is = moved_to is_back n (this_month day) index a amount (omega (arith, b.0)) refl;
      in_years = (b.0, b.1);
      day_is = sym b.2;
    }

months_from : (is_back : Bool) (n day d : ℕ) (a : ℤ) → IsAmount is_back n a → IsMonthsAfter day a d → in_month (month_day_of day) (moved is_back n (this_month day)) ≡ Some d
months_from is_back n day d a amount r =
    let parts = parts_are day r.year r.month r.date r.real r.base_is in
    let here : this_month day ≡ month_index r.year r.month = ap (λ y. month_index y (month_of day)) parts.0 ∙ ap (month_index r.year) parts.1 in
    let e : moved is_back n (this_month day) ≡ r.index = moved_from is_back n (this_month day) r.index a amount (omega (arith, r.in_years)) (rw here r.index_is) in
    rw (e, parts.2) (between_some 12 119_999 r.index (day_of_month r.index r.date) d r.in_years.0 r.in_years.1 (sym r.day_is))

pub added_to : (is_back : Bool) (n : ℕ) (unit : Unit) (day d : ℕ) (a : ℤ) → IsDay day → IsAmount is_back n a → day_moved is_back n unit day ≡ Some d → IsAdded day a unit d
added_to is_back n Hour day d a real amount e = absurd cc
added_to is_back n Day day d a real amount e = days_to is_back n day d a amount e
added_to is_back n Week day d a real amount e = days_to is_back (7 * n) day d (a *ℤ pos 7) (weeks is_back n a amount) e
added_to is_back n Month day d a real amount e = months_to is_back n day d a real amount e
added_to is_back n Year day d a real amount e = months_to is_back (12 * n) day d (a *ℤ pos 12) real (years is_back n a amount) e

pub added_from : (is_back : Bool) (n : ℕ) (unit : Unit) (day d : ℕ) (a : ℤ) → IsAmount is_back n a → IsAdded day a unit d → day_moved is_back n unit day ≡ Some d
added_from is_back n Hour day d a amount h = absurd h
added_from is_back n Day day d a amount h = days_from is_back n day d a amount h
added_from is_back n Week day d a amount h = days_from is_back (7 * n) day d (a *ℤ pos 7) (weeks is_back n a amount) h
added_from is_back n Month day d a amount h = months_from is_back n day d a amount h
added_from is_back n Year day d a amount h = months_from is_back (12 * n) day d (a *ℤ pos 12) (years is_back n a amount) h

pub moved_is : (is_back : Bool) (n : ℕ) (unit : Unit) (day : ℕ) (a : ℤ) (r : Option ℕ) → IsDay day → IsAmount is_back n a →
    IfSome r (IsAdded day a unit) → ((d : ℕ) → IsAdded day a unit d → r ≡ Some d) → r ≡ day_moved is_back n unit day
moved_is is_back n unit day a r real amount holds only =
    answered r (day_moved is_back n unit day) (IsAdded day a unit) holds only (λ d e. added_to is_back n unit day d a real amount e) (λ d h. added_from is_back n unit day d a amount h)
