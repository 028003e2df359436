-- Sets of days in which an id was put, or taken from.
use Rattle.std.proofs.Common.{◌≡◌, ℕ, [], true, false, ◌&&◌, inl, inr, sym, ap, ◌∙◌, arith}
use Rattle.std.specs.Prelude.{Option, None, nat_eq, if◌then◌else◌}
use Rattle.std.specs.Ordering.{nat_cmp}
use Rattle.std.specs.BTreeMap.{BTreeMap, get}
use Rattle.std.specs.BTreeSet.{BTreeSet, contains}
use Rattle.std.proofs.lemmas.Bool.{and_parts, cases_Bool}
use Rattle.std.proofs.lemmas.Bool.Decides.{nat_tests}
use Rattle.std.specs.List.{list_any}
use Rattle.std.specs.BTreeMap.{is_at}
use Rattle.std.specs.Map.{lookup}
use Rattle.org_index.proofs.ShareLemmas.{fits_again}
use Rattle.org_index.specs.declared.reach.Reach.{Reach}
use Rattle.org_index.specs.declared.day_sets.DaySets.{DaySets}
use Rattle.org_index.specs.DaySet.{Fits, IsSet, delayed_day, is_day, own_day, range_day, repeated_day, key_cmp, stands_by, warned_day}
use Rattle.org_index.specs.DaySets.{AreEmpty, AreLanesOf, AreSame, AreSet, MayStand, StaysBut}

pub set_stays : (day : Option ℕ) (id : ℕ) (old new : BTreeSet (ℕ × ℕ)) → IsSet true day id old new → StaysBut day id old new
set_stays day id old new set d i other = set d i ∙ ap (λ b. if b then true else contains key_cmp old (d, i)) other

-- sets of days in which it was put
pub set_may : (e : Reach) (id : ℕ) (old new : DaySets) → AreSet true e id old new → MayStand e id old new
set_may e id old new set = record {
  days = set_stays (own_day e) id old.days new.days set.days;
  repeating = set_stays (repeated_day e) id old.repeating new.repeating set.repeating;
  delayed = set_stays (delayed_day e) id old.delayed new.delayed set.delayed;
  warned = set_stays (warned_day e) id old.warned new.warned set.warned;
  ranges = set_stays (range_day e) id old.ranges new.ranges set.ranges;
}

same_number : (i id : ℕ) → nat_eq i id ≡ true → i ≡ id
same_number i id h = grind (arith, nat_tests)

-- a new id that may have been put there, and is taken away again
fits_without : (key : Reach → Option ℕ) (reaches : BTreeMap ℕ Reach) (e : Reach) (id : ℕ) (old mid new : BTreeSet (ℕ × ℕ)) → Fits key reaches old → get nat_cmp reaches id ≡ None →
    StaysBut (key e) id old mid → IsSet false (key e) id mid new → Fits key reaches new
fits_without key reaches e id old mid new fits none may set d i = elim (cases_Bool (nat_eq i id && is_day (key e) d)) [
  | inl here ↦
      let same : i ≡ id = same_number i id (and_parts (nat_eq i id) (is_day (key e) d) here).0 in
      set d i
      ∙ ap (λ b. if b then false else contains key_cmp mid (d, i)) here
      ∙ sym (ap (λ (o : Option Reach). stands_by key o d) (ap (λ k. get nat_cmp reaches k) same ∙ none))
  | inr other ↦
      set d i
      ∙ ap (λ b. if b then false else contains key_cmp mid (d, i)) other
      ∙ may d i other
      ∙ fits d i
]

pub lanes_without : (reaches : BTreeMap ℕ Reach) (e : Reach) (id : ℕ) (old mid new : DaySets) → AreLanesOf reaches old → get nat_cmp reaches id ≡ None →
    MayStand e id old mid → AreSet false e id mid new → AreLanesOf reaches new
lanes_without reaches e id old mid new fits none may set = record {
  days = fits_without own_day reaches e id old.days mid.days new.days fits.days none may.days set.days;
  repeating = fits_without repeated_day reaches e id old.repeating mid.repeating new.repeating fits.repeating none may.repeating set.repeating;
  delayed = fits_without delayed_day reaches e id old.delayed mid.delayed new.delayed fits.delayed none may.delayed set.delayed;
  warned = fits_without warned_day reaches e id old.warned mid.warned new.warned fits.warned none may.warned set.warned;
  ranges = fits_without range_day reaches e id old.ranges mid.ranges new.ranges fits.ranges none may.ranges set.ranges;
}

fits_empty : (key : Reach → Option ℕ) (reaches : BTreeMap ℕ Reach) (day_set : BTreeSet (ℕ × ℕ)) → reaches.entries ≡ [] → day_set.keys ≡ [] → Fits key reaches day_set
fits_empty key reaches day_set none empty d i =
    ap (λ ks. list_any (is_at (key_cmp (d, i))) ks) empty ∙ sym (ap (λ es. stands_by key (lookup (is_at (nat_cmp i)) es) d) none)

pub lanes_empty : (reaches : BTreeMap ℕ Reach) (day_sets : DaySets) → reaches.entries ≡ [] → AreEmpty day_sets → AreLanesOf reaches day_sets
lanes_empty reaches day_sets none empty = record {
  days = fits_empty own_day reaches day_sets.days none empty.days;
  repeating = fits_empty repeated_day reaches day_sets.repeating none empty.repeating;
  delayed = fits_empty delayed_day reaches day_sets.delayed none empty.delayed;
  warned = fits_empty warned_day reaches day_sets.warned none empty.warned;
  ranges = fits_empty range_day reaches day_sets.ranges none empty.ranges;
}

pub lanes_again : (reaches other : BTreeMap ℕ Reach) (day_sets shared : DaySets) → other.entries ≡ reaches.entries → AreSame day_sets shared → AreLanesOf reaches day_sets → AreLanesOf other shared
lanes_again reaches other day_sets shared map same fits = record {
  days = fits_again own_day reaches other day_sets.days shared.days map same.days fits.days;
  repeating = fits_again repeated_day reaches other day_sets.repeating shared.repeating map same.repeating fits.repeating;
  delayed = fits_again delayed_day reaches other day_sets.delayed shared.delayed map same.delayed fits.delayed;
  warned = fits_again warned_day reaches other day_sets.warned shared.warned map same.warned fits.warned;
  ranges = fits_again range_day reaches other day_sets.ranges shared.ranges map same.ranges fits.ranges;
}
