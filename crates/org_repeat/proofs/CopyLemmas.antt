-- Copies of ranges.
use Rattle.std.proofs.Common.{◌≡◌, ◌↔◌, ◌⊎◌, ℕ, pos, ◌+◌, ◌-◌, ◌*◌, ◌/◌, ◌%◌, ◌<◌, ◌≤◌, min, ℤ, inl, inr, refl, sym, ap, subst, arith}
use Rattle.std.specs.Prelude.{Option, Some, None, unwrap_or}
use Rattle.std.proofs.lemmas.Bool.{cases_lt}
use Rattle.std.proofs.lemmas.Option.{same_Some}
use Rattle.jiff_core.specs.Calendar.{days_in_month}
use Rattle.org_base.specs.declared.profile.Profile.{Profile}
use Rattle.org_base.specs.declared.profile.Profile.TheVariants.{One, Two}
use Rattle.org_cal.specs.Added.{IsMonthsAfter}
use Rattle.org_cal.specs.Days.{IsDay}
use Rattle.org_cal.specs.declared.unit.Unit.{Unit as TimeUnit}
use Rattle.org_cal.specs.declared.unit.Unit.TheVariants.{Hour, Day, Week, Month, Year}
use Rattle.org_cal.proofs.AddedLemmas.{day_of_month_real}
use Rattle.org_cal.proofs.PartLemmas.{number_holds}
use Rattle.org_stamp.specs.declared.mark.Repeater.{Repeater}
use Rattle.org_stamp.specs.declared.stamp.Stamp.{Stamp}
use Rattle.org_repeat.specs.First.{HasNoneFrom, IsFirstFrom, IsLastTo}
use Rattle.org_repeat.specs.Laws.{CopiesOccur, ProfilesAgree}
use Rattle.org_repeat.specs.Occurs.{Begins, Hits, HoldsCopy, Occurs, OccursBy, OccursInRange, OccursOn}
use Rattle.org_repeat.specs.Starts.{IsStartIn}

-- whatever is reached is a day
months_day : (base day : ℕ) (n : ℤ) → IsMonthsAfter base n day → IsDay day
months_day base day n r =
    let real = day_of_month_real r.index r.date r.in_years.0 r.in_years.1 r.real.2.0 in
    subst IsDay (sym r.day_is) (number_holds (r.index / 12) (r.index % 12 + 1) (min r.date (days_in_month (pos (r.index / 12)) (r.index % 12 + 1))) real)

hits_day : (base start n day : ℕ) (unit : TimeUnit) → Hits base start unit n day → IsDay day
hits_day base start n day Hour h = h.0
hits_day base start n day Day h = h.0
hits_day base start n day Week h = h.0
hits_day base start n day Month h = months_day base day _ h
hits_day base start n day Year h = months_day base day _ h

by_day : (base start day : ℕ) (r : Option Repeater) → IsDay base → OccursBy base start r day → IsDay day
by_day base start day None real h = subst IsDay (sym h) real
by_day base start day (Some r) real h = hits_day base start (h.0 * r.n) day r.unit h.1

pub begins_day : (s : Stamp) (day : ℕ) → IsDay s.day → Begins s day → IsDay day
begins_day s day real h = by_day s.day (unwrap_or s.time 0) day s.repeater real h

-- a copy that ends before another day begins holds no later one
module _ (s : Stamp) (last from early : ℕ) (real : IsDay s.day) (written : s.day ≤ last) (most : 1 < early → early + (last - s.day) ≡ from) where
  begun_by : (b e : ℕ) → Begins s b → b ≤ e → e + s.day ≤ b + last → from ≤ e → early ≤ b
  begun_by b e h begun whole late = elim (cases_lt b early) [
    | inl before ↦
        let some : 1 ≤ b = (begins_day s b real h).0 in
        absurd (omega (arith, most (omega (arith, some, before)), before, whole, late, written))
    | inr after ↦ after
  ]

  pub copies_first : (found begins : ℕ) → IsDay from → from ≤ early + (last - s.day) → begins ≤ found → from ≤ found → (found ≡ begins) ⊎ (found ≡ from) → IsFirstFrom (Begins s) early begins → IsFirstFrom (OccursInRange Two s last) from found
  copies_first found begins real_from near after late one f = record {
    holds = (day one, (begins, (f.holds, after, whole one)));
    late = late;
    first = λ e h le. least one e h le;
  }
    where
      day : (found ≡ begins) ⊎ (found ≡ from) → IsDay found
      day (inl is) = subst IsDay (sym is) (begins_day s begins real f.holds)
      day (inr is) = subst IsDay (sym is) real_from

      whole : (found ≡ begins) ⊎ (found ≡ from) → found + s.day ≤ begins + last
      whole (inl is) = omega (arith, is, written)
      whole (inr is) = omega (arith, is, near, f.late, written)

      least : (found ≡ begins) ⊎ (found ≡ from) → (e : ℕ) → OccursInRange Two s last e → from ≤ e → found ≤ e
      least (inl is) e h le =
          let b : ℕ = h.1.0 in
          let held : HoldsCopy s last e b = h.1.1 in
          omega (arith, is, f.first b held.0 (begun_by b e held.0 held.1 held.2 le), held.1)
      least (inr is) e h le = omega (arith, is, le)

  pub copies_none : HasNoneFrom (Begins s) early → HasNoneFrom (OccursInRange Two s last) from
  copies_none none e h le =
      let b : ℕ = h.1.0 in
      let held : HoldsCopy s last e b = h.1.1 in
      none b held.0 (begun_by b e held.0 held.1 held.2 le)

-- in the second profile a range occurs on the days of its copies
pub in_copies : (s : Stamp) (p : Profile) (last : ℕ × Option ℕ) (P : (ℕ → Type 0) → Type 0) → p ≡ Two → s.last ≡ Some last → P (OccursInRange Two s last.0) → P (Occurs p s)
in_copies s p last P two is h =
    subst (λ (q : Profile). P (OccursOn q s s.last)) (sym two) (subst (λ (o : Option (ℕ × Option ℕ)). P (OccursOn Two s o)) (sym is) h)

-- a range that ends before it begins has no days
pub never_held : (s : Stamp) (last from : ℕ) → last < s.day → HasNoneFrom (OccursInRange Two s last) from
never_held s last from before e h le =
    let b : ℕ = h.1.0 in
    let held : HoldsCopy s last e b = h.1.1 in
    absurd (omega (arith, held.1, held.2, before))

-- the copy that begins last up to a day is the one that the day shows, if it is long enough
pub shown_copy : (s : Stamp) (last day begins : ℕ) → IsDay day → IsLastTo (Begins s) day begins → day + s.day ≤ begins + last → IsStartIn Two s last day begins
shown_copy s last day begins real f whole = (real, (f.holds, f.early, whole), λ other h. f.last other h.0 h.1)

pub too_short : (s : Stamp) (last day begins b : ℕ) → IsLastTo (Begins s) day begins → begins + last < day + s.day → HoldsCopy s last day b → ⊥
too_short s last day begins b f short h = omega (arith, f.last b h.0 h.1, h.2, short)

-- both profiles agree where no range repeats
agree_range : (s : Stamp) (last day : ℕ) (r : Option Repeater) → IsDay day → r ≡ None → ((s.day ≤ day) × (day ≤ last)) ↔ (IsDay day × ((begins : ℕ) × (OccursBy s.day (unwrap_or s.time 0) r begins × (begins ≤ day) × (day + s.day ≤ begins + last))))
agree_range s last day None real is = (
  λ h. (real, (s.day, (refl, h.0, omega (arith, h.1)))),
  λ h.
      let b : ℕ = h.1.0 in
      let same : b ≡ s.day = h.1.1.0 in
      (omega (arith, same, h.1.1.1), omega (arith, same, h.1.1.2)),
)
agree_range s last day (Some r) real is = absurd (cc)

agree : (s : Stamp) (last : Option (ℕ × Option ℕ)) (day : ℕ) → IsDay day → (last ≡ None) ⊎ (s.repeater ≡ None) → OccursOn One s last day ↔ OccursOn Two s last day
agree s None day real none = (λ h. h, λ h. h)
agree s (Some last) day real (inl gone) = absurd (cc)
agree s (Some last) day real (inr gone) = agree_range s last.0 day s.repeater real gone

pub profiles_agree : ProfilesAgree
profiles_agree s day real none = agree s s.last day real none

copies : (s : Stamp) (o : Option (ℕ × Option ℕ)) (last : ℕ) (start : Option ℕ) (day : ℕ) → IsDay day → o ≡ Some (last, start) → s.day ≤ last → OccursOn Two s o day ↔ ((begins : ℕ) × Begins s begins × (begins ≤ day) × (day ≤ begins + (last - s.day)))
copies s None last start day real is written = absurd (cc)
copies s (Some (last', start')) last start day real is written =
    let same : last' ≡ last = ap (λ (x : ℕ × Option ℕ). x.0) (same_Some (last', start') (last, start) is) in (
      λ h. let held : HoldsCopy s last' day h.1.0 = h.1.1 in (h.1.0, held.0, held.1, omega (arith, held.2, same, written)),
      λ h. (real, (h.0, (h.1, h.2, omega (arith, h.3, same, written)))),
    )

pub copies_occur : CopiesOccur
copies_occur s last start day real is written = copies s s.last last start day real is written
