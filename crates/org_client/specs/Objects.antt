-- Rows and days as objects of JSON (RFC 8259; names of members: profile).
use Rattle.std.specs.Prelude.{ℕ, List, [], ◌∷◌, ◌++◌, Option, None, Some, codes, map}
use Rattle.org_client.specs.Headings.{by_place}
use Rattle.org_client.specs.Json.{begun, ended, items_with, object_member, pair_text, text_member}
use Rattle.org_client.specs.Members.{date_member, text_member_of}
use Rattle.org_client.specs.Report.{ReportView}
use Rattle.org_client.specs.RowIds.{id_text}
use Rattle.org_client.specs.RowMembers.{kind_of, members_of}
use Rattle.org_client.specs.ViewRows.{heading_of}
use Rattle.org_client.specs.declared.rows.ViewRow.{ViewRow}
use Rattle.org_entry.specs.declared.entry.Entry.{Entry}
use Rattle.org_head.specs.declared.head.Head.{Head}
use Rattle.org_inherit.specs.Scope.{Scope}
use Rattle.org_inherit.specs.Special.{value_of}
use Rattle.org_inherit.specs.declared.headings.Heading.{Heading as FoundHeading}

-- a name with its value, if there is one
abbrev pub pair_if : List ℕ → Option (List ℕ) → List (List ℕ × List ℕ)
pair_if name None = []
pair_if name (Some value) = (name, value) ∷ []

-- those of names under which a heading has a value, with these
abbrev pub pairs_of : Scope → ℕ → List (List ℕ) → List (List ℕ × List ℕ)
pairs_of scope i [] = []
pairs_of scope i (name ∷ names) = pair_if name (value_of scope i name) ++ pairs_of scope i names

-- pairs with a comma between them
abbrev pub pairs_text : List (List ℕ × List ℕ) → List ℕ
pairs_text pairs = items_with 44 (map pair_text pairs)

-- what stands before one more
abbrev pub behind_pairs : List ℕ → List ℕ
behind_pairs [] = []
behind_pairs (byte ∷ bytes) = byte ∷ bytes ++ 44 ∷ []

-- pairs with one more, if there is a value
abbrev pub with_pair : List ℕ → List ℕ → Option (List ℕ) → List ℕ
with_pair pairs name None = pairs
with_pair pairs name (Some value) = behind_pairs pairs ++ pair_text (name, value)

-- an object of them; nothing where there are none
abbrev pub pairs_member : List (List ℕ × List ℕ) → List ℕ
pairs_member [] = []
pairs_member (pair ∷ pairs) = object_member (codes "properties") (pair ∷ pairs)

abbrev pub properties_of : List (List ℕ) → Scope → ℕ → Entry → Head → List ℕ
properties_of names scope i e head = pairs_member (pairs_of scope i names)

-- the properties of a row's heading that are asked for
abbrev pub properties_at : ReportView → Option (ℕ × ℕ) → List ℕ
properties_at report None = []
properties_at report (Some place) = by_place [] (properties_of report.properties) report.scopes place.0 place.1

abbrev pub properties_of_found : List (List ℕ) → FoundHeading → List ℕ
properties_of_found names h = pairs_member (pairs_of h.inherit.now h.place names)

abbrev pub pairs_of_found : List (List ℕ) → FoundHeading → List ℕ
pairs_of_found names h = pairs_text (pairs_of h.inherit.now h.place names)

abbrev pub with_value : List ℕ → List ℕ → FoundHeading → List ℕ
with_value pairs name h = with_pair pairs name (value_of h.inherit.now h.place name)

-- the short id of a row's heading; nothing where it has none
abbrev pub row_id : ReportView → ViewRow → List ℕ
row_id report row = elim (heading_of row) [ None ↦ [] | Some at ↦ id_text report.ids (record { file = at.0; heading = at.1 }) 0 ]

abbrev pub id_member_of : List ℕ → List ℕ
id_member_of [] = []
id_member_of (byte ∷ id) = text_member (codes "id") (byte ∷ id)

-- the value of a row's member of a name, as a person is told it
abbrev pub member_value : ReportView → ViewRow → List ℕ → List ℕ → List ℕ
member_value report row text name =
    text_member_of (Some name) (codes "kind") (kind_of row) ++ members_of (Some name) report row
    ++ text_member_of (Some name) (codes "id") (row_id report row)
    ++ text_member_of (Some name) (codes "text") text

-- the object of a row, with the text of its line
abbrev pub row_object : ReportView → ViewRow → List ℕ → List ℕ
row_object report row text = begun (kind_of row) ++ members_of None report row ++ properties_at report (heading_of row) ++ id_member_of (row_id report row) ++ ended text

-- the object of a day
abbrev pub day_object : ℕ → List ℕ → List ℕ
day_object day text = begun (codes "day") ++ date_member None (codes "day") (Some day) ++ ended text
