-- Of each heading the row whose line has the others as notes.
use Rattle.std.specs.Prelude.{◌≡◌, ℕ, ◌+◌, ◌*◌, ◌==◌, Bool, true, false, nat_lt, if◌then◌else◌, List, [], ◌∷◌, Option, None, Some}
use Rattle.std.specs.BTreeMap.{get, BTreeMap}
use Rattle.std.specs.Ordering.{nat_cmp}
use Rattle.org_day.specs.Sections.{rank_of, section_of}
use Rattle.org_day.specs.declared.lead.Lead.{Lead}
use Rattle.org_day.specs.declared.stand.Kind.{Kind}
use Rattle.org_day.specs.declared.stand.Kind.TheVariants.{Stamp, Range, Planned as PlannedRow, Due as DueRow, LatePlanned, LateDue, DueIn}
use Rattle.org_day.specs.declared.stand.Stand.{Stand}

-- its day is past
abbrev pub is_late : Kind → Bool
is_late Stamp = false
is_late (Range day of) = false
is_late PlannedRow = false
is_late DueRow = false
is_late (LatePlanned days) = true
is_late (LateDue days) = true
is_late (DueIn days) = false

-- by section, and in one what is late first: of a habit it says more
abbrev pub lead_rank : Stand → ℕ
lead_rank stand = if is_late stand.kind then rank_of (section_of stand) * 2 else rank_of (section_of stand) * 2 + 1

-- the row at a place
abbrev pub lead_at : Stand → ℕ → Lead
lead_at stand place = record { rank = lead_rank stand; place = place }

-- a later row comes before an earlier one where its number is smaller
abbrev pub is_earlier : Lead → Lead → Bool
is_earlier lead found = nat_lt lead.rank found.rank

-- of a row that was found and a later one the first
abbrev pub first_of : Option Lead → Lead → Option Lead
first_of None lead = Some lead
first_of (Some found) lead = if is_earlier lead found then Some lead else Some found

-- what was found of a heading, and one more row
abbrev pub noted : ℕ → Option Lead → Stand → ℕ → Option Lead
noted heading found stand place = if stand.heading == heading then first_of found (lead_at stand place) else found

-- what was found of a heading, and the rows from a place on
abbrev pub lead_from : ℕ → ℕ → Option Lead → List Stand → Option Lead
lead_from heading place found [] = found
lead_from heading place found (stand ∷ stands) = lead_from heading (place + 1) (noted heading found stand place) stands

-- the first row of a heading
abbrev pub lead_of : List Stand → ℕ → Option Lead
lead_of stands heading = lead_from heading 0 None stands

-- a map has the first row of each heading that has one
abbrev pub HasLeads : BTreeMap ℕ Lead → List Stand → Type 0
HasLeads leads stands = (heading : ℕ) → get nat_cmp leads heading ≡ lead_of stands heading

-- one more row was noted
abbrev pub Notes : BTreeMap ℕ Lead → BTreeMap ℕ Lead → Stand → ℕ → Type 0
Notes old new stand place = (heading : ℕ) → get nat_cmp new heading ≡ noted heading (get nat_cmp old heading) stand place
