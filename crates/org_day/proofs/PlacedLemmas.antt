-- Each row has a place of its own, and the row of a line is a line itself.
use Rattle.std.proofs.Common.{Bool, subst, ◌≡◌, ℕ, zero, suc, ◌+◌, ◌==◌, true, false, cond, List, [], ◌∷◌, map, length, refl, sym, ap, ◌∙◌, arith, Option, None, Some, slice_get}
use Rattle.std.specs.List.{range_with_len}
use Rattle.std.proofs.lemmas.Bool.{eqb-true, eq-eqb}
use Rattle.std.proofs.lemmas.Option.{none-some, same_Some}
use Rattle.org_day.specs.Leads.{first_of, is_earlier, lead_at, lead_from, lead_of, noted}
use Rattle.org_day.specs.Laws.{EachRowHasItsPlace, LinesStand, StandsIn}
use Rattle.org_day.specs.Placed.{is_by_the_clock, line_of, place_or, placed_all, placed_from}
use Rattle.org_day.specs.Sections.{section_of}
use Rattle.org_day.specs.declared.lead.Lead.{Lead}
use Rattle.org_day.specs.declared.placed.Placed.{Placed}
use Rattle.org_day.specs.declared.stand.Stand.{Stand}

places_from : (stands : List Stand) (place : ℕ) (rest : List Stand) → map (λ (p : Placed). p.place) (placed_from stands place rest) ≡ range_with_len place (length rest)
places_from stands place [] = refl
places_from stands place (stand ∷ rest) = ap (λ t. place ∷ t) (places_from stands (place + 1) rest)

pub each_row_has_its_place : EachRowHasItsPlace
each_row_has_its_place stands = places_from stands 0 stands

-- what was found is a row of the heading
abbrev IsRowOf : List Stand → ℕ → Option Lead → Type 0
IsRowOf stands heading None = Unit {0}
IsRowOf stands heading (Some lead) = (first : Stand) × (slice_get stands lead.place ≡ Some first) × (first.heading ≡ heading)

first_row : (stands : List Stand) (heading place : ℕ) (found : Option Lead) (stand : Stand) → slice_get stands place ≡ Some stand → stand.heading ≡ heading → IsRowOf stands heading found → IsRowOf stands heading (first_of found (lead_at stand place))
first_row stands heading place None stand at own h = (stand, at, own)
first_row stands heading place (Some found) stand at own h =
    elim (is_earlier (lead_at stand place) found) as (λ b. IsRowOf stands heading (cond b (Some (lead_at stand place)) (Some found)))
    [ true ↦ (stand, at, own) | false ↦ h ]

noted_row : (stands : List Stand) (heading place : ℕ) (found : Option Lead) (stand : Stand) → slice_get stands place ≡ Some stand → IsRowOf stands heading found → IsRowOf stands heading (noted heading found stand place)
noted_row stands heading place found stand at h =
    elim (stand.heading == heading) as (λ b. (stand.heading == heading) ≡ b → IsRowOf stands heading (cond b (first_of found (lead_at stand place)) found))
    [ true ↦ λ e. first_row stands heading place found stand at (eqb-true stand.heading heading e) h | false ↦ λ e. h ] refl

lead_row : (stands : List Stand) (heading place : ℕ) (found : Option Lead) (rest : List Stand) → ((k : ℕ) → slice_get stands (place + k) ≡ slice_get rest k) → IsRowOf stands heading found → IsRowOf stands heading (lead_from heading place found rest)
lead_row stands heading place found [] left h = h
lead_row stands heading place found (stand ∷ rest) left h =
    let here : slice_get stands place ≡ Some stand = ap (slice_get stands) (omega arith) ∙ left 0 in
    lead_row stands heading (place + 1) (noted heading found stand place) rest
    (λ k. ap (slice_get stands) (omega arith) ∙ left (suc k))
    (noted_row stands heading place found stand here h)

-- a row that was found stays found, or an earlier one is
abbrev Finds : Option Lead → Type 0
Finds found = (lead : Lead) × (found ≡ Some lead)

noted_finds : (heading place : ℕ) (lead : Lead) (stand : Stand) → Finds (noted heading (Some lead) stand place)
noted_finds heading place lead stand =
    elim (stand.heading == heading) as (λ b. Finds (cond b (first_of (Some lead) (lead_at stand place)) (Some lead))) [
      | true ↦ elim (is_earlier (lead_at stand place) lead) as (λ b. Finds (cond b (Some (lead_at stand place)) (Some lead))) [ true ↦ (lead_at stand place, refl) | false ↦ (lead, refl) ]
      | false ↦ (lead, refl)
    ]

first_finds : (found : Option Lead) (lead : Lead) → Finds (first_of found lead)
first_finds None lead = (lead, refl)
first_finds (Some found) lead = elim (is_earlier lead found) as (λ b. Finds (cond b (Some lead) (Some found))) [ true ↦ (lead, refl) | false ↦ (found, refl) ]

still_found : (heading place : ℕ) (found : Option Lead) (rest : List Stand) → Finds found → Finds (lead_from heading place found rest)
still_found heading place found [] h = h
still_found heading place found (stand ∷ rest) h =
    still_found heading (place + 1) (noted heading found stand place) rest
    (subst (λ o. Finds (noted heading o stand place)) (sym h.1) (noted_finds heading place h.0 stand))

comes : (heading place : ℕ) (found : Option Lead) (rest : List Stand) (k : ℕ) (stand : Stand) → slice_get rest k ≡ Some stand → stand.heading ≡ heading → Finds (lead_from heading place found rest)
comes heading place found [] k stand at own = absurd (none-some stand at)
comes heading place found (first ∷ rest) zero stand at own =
    let is : first ≡ stand = same_Some first stand at in
    let same : (first.heading == heading) ≡ true = eq-eqb first.heading heading (ap (λ s. s.heading) is ∙ own) in
    still_found heading (place + 1) (noted heading found first place) rest
    (subst (λ b. Finds (cond b (first_of found (lead_at first place)) found)) (sym same) (first_finds found (lead_at first place)))
comes heading place found (first ∷ rest) (suc k) stand at own = comes heading (place + 1) (noted heading found first place) rest k stand at own

-- the line of a row that isn't by the clock
led : (stands : List Stand) (place : ℕ) (stand : Stand) → slice_get stands place ≡ Some stand → StandsIn stands stand (place_or (lead_of stands stand.heading) place)
led stands place stand at =
    let found = comes stand.heading 0 None stands place stand at refl in
    let row : IsRowOf stands stand.heading (Some found.0) = subst (IsRowOf stands stand.heading) found.1 (lead_row stands stand.heading 0 None stands (λ k. ap (slice_get stands) (omega arith)) tt) in
    let own : line_of stands row.0 found.0.place ≡ found.0.place =
    elim (is_by_the_clock (section_of row.0)) as (λ b. cond b found.0.place (place_or (lead_of stands row.0.heading) found.0.place) ≡ found.0.place)
    [ true ↦ refl | false ↦ ap (λ h. place_or (lead_of stands h) found.0.place) row.2 ∙ ap (λ o. place_or o found.0.place) found.1 ] in
    subst (λ o. StandsIn stands stand (place_or o place)) (sym found.1) (record { first = row.0; at = row.1; own = own; same = row.2 })

pub lines_stand : LinesStand
lines_stand stands place stand at =
    elim (is_by_the_clock (section_of stand)) as (λ b. is_by_the_clock (section_of stand) ≡ b → StandsIn stands stand (cond b place (place_or (lead_of stands stand.heading) place))) [
      | true ↦ λ e. record { first = stand; at = at; own = ap (λ b. cond b place (place_or (lead_of stands stand.heading) place)) e; same = refl }
      | false ↦ λ e. led stands place stand at
    ] refl
