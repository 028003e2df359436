-- Where the line of a clock that begins goes (profile, as Org writes it).
-- Characters by their codes: 58 :.
use Rattle.std.specs.Prelude.{ℕ, ◌+◌, ◌-◌, Bool, true, false, ◌&&◌, not, ◌==◌, nat_le, if◌then◌else◌, List, [], ◌∷◌, length, slice_get, slice_index, Option, Some, None, is_some, codes}
use Rattle.std.specs.List.{list_all, slice_range}
use Rattle.org_amend.specs.declared.place.ClockPlace.{ClockPlace}
use Rattle.org_amend.specs.declared.place.ClockPlace.TheVariants.{InDrawer, UnderFront}
use Rattle.org_amend.specs.declared.place.DrawerName.{DrawerName}
use Rattle.org_amend.specs.declared.place.DrawerName.TheVariants.{Logbook, Any}
use Rattle.org_base.specs.Words.{is_gap, same_word, trimmed}
use Rattle.org_base.specs.declared.span.Span.{Span}
use Rattle.org_class.specs.Drawers.{is_drawer_end}
use Rattle.org_class.specs.declared.class.Class.{Class}
use Rattle.org_class.specs.declared.class.Class.TheVariants.{Heading, Planning, DrawerOpen, Node, DrawerEnd, Plain}
use Rattle.org_lines.specs.Cuts.{lines_in}

-- the heading, its planning line and its property drawer
abbrev pub is_front : Option Class → Bool
is_front (Some Heading) = true
is_front (Some Planning) = true
is_front (Some DrawerOpen) = true
is_front (Some Node) = true
is_front (Some DrawerEnd) = true
is_front class = false

-- where these end, of lines of which the first has the class at this place and begins at that one
unfoldable pub front_end : List Class → ℕ → ℕ → List (List ℕ) → ℕ
front_end cs place at [] = at
front_end cs place at (l ∷ ls) = if is_front (slice_get cs place) then front_end cs (place + 1) (at + length l) ls else at

-- `:LOGBOOK:` alone in its line, in any case
abbrev pub is_logbook : List ℕ → Bool
is_logbook l = same_word (trimmed l) (codes ":LOGBOOK:")

-- a byte that a drawer's name may have: neither a colon nor white space
abbrev pub is_name_byte : ℕ → Bool
is_name_byte b = not (b == 58) && not (is_gap b)

-- `:NAME:`, with a name that isn't empty
abbrev pub is_named : List ℕ → Bool
is_named w =
    nat_le 3 (length w) && ((slice_index w 0 == 58) && ((slice_index w (length w - 1) == 58) && list_all is_name_byte (slice_range w 1 (length w - 1))))

-- a line that opens a drawer of a wanted name: any `:NAME:` alone in its line, or the one of clocks
abbrev pub opens : DrawerName → List ℕ → Bool
opens Logbook l = is_logbook l
opens Any l = is_named (trimmed l)

-- such a line at a place; a line of a block is none
abbrev pub opened : DrawerName → Option Class → ℕ → List ℕ → Option Span
opened name (Some Plain) at l = if opens name l then Some (record { at = at; len = length l }) else None
opened name class at l = None

abbrev pub or_opened : DrawerName → Option Span → Option Class → ℕ → List ℕ → Option Span
or_opened name (Some found) class at l = Some found
or_opened name None class at l = opened name class at l

-- the opening line of the first such drawer that ends, once one is open
unfoldable pub drawer_from : DrawerName → Option Span → List Class → ℕ → ℕ → List (List ℕ) → Option Span
drawer_from name drawer cs place at [] = None
drawer_from name drawer cs place at (l ∷ ls) =
    if is_some drawer && is_drawer_end l then drawer
    else drawer_from name (or_opened name drawer (slice_get cs place) at l) cs (place + 1) (at + length l) ls

-- the same of a section of a text, and where its front ends

abbrev pub drawer_in : DrawerName → List ℕ → Span → List Class → Option Span
drawer_in name text section cs = drawer_from name None cs 0 section.at (lines_in text section)

abbrev pub logbook_in : List ℕ → Span → List Class → Option Span
logbook_in text section cs = drawer_in Logbook text section cs

abbrev pub front_in : List ℕ → Span → List Class → ℕ
front_in text section cs = front_end cs 0 section.at (lines_in text section)

abbrev pub place_of : Option Span → ℕ → ClockPlace
place_of (Some drawer) front = InDrawer drawer
place_of None front = UnderFront front

-- first in the drawer, or in one that is made under the front
abbrev pub clock_place : List ℕ → Span → List Class → ClockPlace
clock_place text section cs = place_of (logbook_in text section cs) (front_in text section cs)

-- where such a place is in the text
abbrev pub place_at : ClockPlace → ℕ
place_at (InDrawer drawer) = drawer.at + drawer.len
place_at (UnderFront at) = at
