-- Days of delays, and what the rows of ranges show.
use Rattle.std.proofs.Common.{◌≡◌, ◌∙◌, ◌≤◌, ◌+◌, ◌*◌, eq-eqb, ℕ, refl, sym, ap, subst, arith}
use Rattle.std.specs.Prelude.{Option, Some, unwrap_or}
use Rattle.std.proofs.Math.Nat.{mul-div-le, lt-mul-div-succ}
use Rattle.std.proofs.lemmas.Bool.{ne_eqb}
use Rattle.org_base.specs.declared.profile.Profile.{Profile}
use Rattle.org_base.specs.declared.profile.Profile.TheVariants.{One, Two}
use Rattle.org_cal.specs.Days.{IsDay}
use Rattle.org_cal.specs.declared.unit.Unit.TheVariants.{Hour, Day, Week, Month, Year}
use Rattle.org_repeat.specs.Starts.{IsRangeStart, IsStartIn, IsStartOf}
use Rattle.org_repeat.proofs.DecidedLemmas.{start_is_decided}
use Rattle.org_stamp.specs.declared.stamp.Stamp.{Stamp}
use Rattle.org_agenda.specs.Days.{numbers, range_numbers, range_times, shown_from, times}
use Rattle.org_agenda.specs.Rules.{DelaysAreDays, RangesAreNumbered, RangesShowTheirEnds, ShowsItsEnds}
use Rattle.org_agenda.specs.declared.row.RowKind.TheVariants.{InRange}

pub delays : DelaysAreDays
delays Hour n = (mul-div-le n 24, lt-mul-div-succ n (omega arith))
delays Day n = refl
delays Week n = refl
delays Month n = (mul-div-le (304 * n) 10, lt-mul-div-succ (304 * n) (omega arith))
delays Year n = (mul-div-le (36525 * n) 100, lt-mul-div-succ (36525 * n) (omega arith))

-- the copy that a day shows holds the day
in_copy : (p : Profile) (s : Stamp) (last : ℕ × Option ℕ) (begins day : ℕ) → IsStartIn p s last.0 day begins → (begins ≤ day) × (day + s.day ≤ begins + last.0)
in_copy One s last begins day is = (omega (arith, is.0, is.1), omega (arith, is.0, is.2))
in_copy Two s last begins day is = (is.1.1, is.1.2)

module _ (p : Profile) (s : Stamp) (last : ℕ × Option ℕ) (begins day : ℕ) (base : IsDay s.day) (there : s.last ≡ Some last) (is : IsRangeStart p s day begins) where
  held : (begins ≤ day) × (day + s.day ≤ begins + last.0)
  held = in_copy p s last begins day (subst (λ (o : Option (ℕ × Option ℕ)). IsStartOf p s o day begins) there is)

  from_begins : shown_from p s day ≡ begins
  from_begins = ap (λ (o : Option ℕ). unwrap_or o 0) ((start_is_decided p s day begins base).0 is)

  its_times : times p InRange s day ≡ range_times s (Some last) begins day
  its_times = ap (λ (o : Option (ℕ × Option ℕ)). range_times s o (shown_from p s day) day) there ∙ ap (λ (b : ℕ). range_times s (Some last) b day) from_begins

  its_numbers : numbers p InRange s day ≡ range_numbers s (Some last) begins day
  its_numbers = ap (λ (o : Option (ℕ × Option ℕ)). range_numbers s o (shown_from p s day) day) there ∙ ap (λ (b : ℕ). range_numbers s (Some last) b day) from_begins

  pub shows_ends : ShowsItsEnds p s last begins day
  shows_ends = record {
    first = λ several here. its_times ∙ rw (eq-eqb day begins here, ne_eqb last.0 s.day (λ e. omega (arith, several, e))) refl;
    end = λ several here. its_times ∙ rw (ne_eqb day begins (λ e. omega (arith, several, here, e)), eq-eqb (day + s.day) (begins + last.0) here) refl;
    between = λ late early. its_times ∙ rw (ne_eqb day begins (λ e. omega (arith, late, e)), ne_eqb (day + s.day) (begins + last.0) (λ e. omega (arith, early, e))) refl;
    single = λ one. its_times ∙ rw (eq-eqb day begins (omega (arith, one, held.0, held.1)), eq-eqb last.0 s.day (sym one)) refl;
  }

  pub are_numbered : ((numbers p InRange s day).0 + begins ≡ day + 1) × ((numbers p InRange s day).1 + s.day ≡ last.0 + 1)
  are_numbered = rw its_numbers (omega (arith, held.0), omega (arith, held.0, held.1))

pub ends : RangesShowTheirEnds
ends p s last begins day base there is = shows_ends p s last begins day base there is

pub ranges : RangesAreNumbered
ranges p s last begins day base there is = are_numbered p s last begins day base there is
