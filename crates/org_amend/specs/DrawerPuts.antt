-- What becomes of the property drawer under a heading and its planning line (Org manual 9.6, "Property Syntax"; what goes and what
-- stays: profile).
use Rattle.std.specs.Prelude.{◌≡◌, ℕ, Bool, ◌&&◌, not, ◌==◌, false, if◌then◌else◌, List, [], ◌++◌, length, take, drop, get_or, Option, Some, None, IfOk, Result, codes, string_bytes}
use Rattle.std.specs.List.{concat}
use Rattle.std.specs.Option.{option_map}
use Rattle.std.specs.Str.{is_utf8}
use Rattle.org_amend.specs.FoundDrawers.{first_of}
use Rattle.org_amend.specs.Planning.{ends_like}
use Rattle.org_amend.specs.PropertyChanges.{all_give, behind_opening, changed_nodes, drawer_at, drawer_of, is_node_of, node_line, says_once}
use Rattle.org_amend.specs.declared.found_drawer.FoundDrawer.{FoundDrawer}
use Rattle.org_amend.specs.declared.property_change.DrawerPut.{DrawerPut}
use Rattle.org_amend.specs.declared.property_change.PropertyChange.{PropertyChange}
use Rattle.org_class.specs.Drawers.{is_drawer_end, is_drawer_open}
use Rattle.org_lines.specs.Cuts.{lines}
use Rattle.org_stamp.specs.Pair.{is_planning}

-- how many bytes are replaced, and what stands there then
pub record Put : Type 0 where
  pub deleted : ℕ
  pub inserted : List ℕ

-- bytes that are text
abbrev pub put_text : ℕ → List ℕ → Option Put
put_text deleted bytes = if is_utf8 bytes then Some (record { deleted = deleted; inserted = bytes }) else None

-- the line of a property ends as another does, says it and ends no drawer
abbrev pub is_line : List ℕ → List ℕ → List ℕ → List ℕ → Bool
is_line name value beside node = not (is_drawer_end node) && ends_like beside node && is_node_of name value node

-- a text is read behind nothing as behind a drawer
abbrev pub may_go : List ℕ → Bool
may_go text = not (is_planning (first_of text)) && not (is_drawer_open (first_of text))

-- a drawer of so many bytes with a value of a property, by its line
abbrev pub with_node : List ℕ → List ℕ → ℕ → List (List ℕ) → List ℕ → Option Put
with_node name value len drawer node =
    if is_line name value (get_or drawer 0 []) node then put_text len (changed_nodes name node drawer) else None

-- the same; where one line alone says it already, the drawer stays
abbrev pub with_property : List ℕ → List ℕ → List ℕ → ℕ → List (List ℕ) → Option Put
with_property name value below len drawer =
    if says_once name value false (behind_opening drawer) then put_text len (take len below)
    else with_node name value len drawer (node_line name value (get_or drawer 0 []))

-- the same without a property; where no other is left, nothing
abbrev pub without_property : List ℕ → List ℕ → ℕ → List (List ℕ) → Option Put
without_property name below len drawer =
    if all_give name (behind_opening drawer) && may_go (drop len below) then put_text len [] else put_text len (changed_nodes name [] drawer)

abbrev pub changed_by : List ℕ → Option (List ℕ) → List ℕ → ℕ → List (List ℕ) → Option Put
changed_by name None below len drawer = without_property name below len drawer
changed_by name (Some value) below len drawer = with_property name value below len drawer

-- the value of a change
abbrev pub value_by : PropertyChange → Option (List ℕ)
value_by change = option_map (λ v. v.now) change.value

abbrev pub changed_lines : PropertyChange → List ℕ → ℕ → List (List ℕ) → Option Put
changed_lines change below len drawer = changed_by change.name.now (value_by change) below len drawer

-- the same of a drawer as it was found

abbrev pub found_with : List ℕ → List ℕ → List ℕ → FoundDrawer → Option Put
found_with name value below drawer = with_property name value below drawer.len drawer.lines

abbrev pub found_without : List ℕ → List ℕ → FoundDrawer → Option Put
found_without name below drawer = without_property name below drawer.len drawer.lines

abbrev pub found_changed : PropertyChange → List ℕ → FoundDrawer → Option Put
found_changed change below drawer = changed_lines change below drawer.len drawer.lines

-- a drawer that is made, behind a line that ends so, or that isn't ended

abbrev pub ended_drawer : List ℕ → List ℕ → List ℕ → Option Put
ended_drawer name value end =
    let node = node_line name value end in if is_line name value end node then put_text 0 (drawer_of node end end) else None

abbrev pub unended_drawer : List ℕ → List ℕ → Option Put
unended_drawer name value =
    let node = node_line name value (codes "\n") in
    if is_line name value (codes "\n") node then put_text 0 (codes "\n" ++ drawer_of node (codes "\n") []) else None

abbrev pub drawer_with : List ℕ → List ℕ → List ℕ → Option Put
drawer_with name value end = if length end == 0 then unended_drawer name value else ended_drawer name value end

abbrev pub made_drawer : List ℕ → Option (List ℕ) → List ℕ → Option Put
made_drawer name None end = put_text 0 []
made_drawer name (Some value) end = drawer_with name value end

abbrev pub new_drawer : PropertyChange → List ℕ → Option Put
new_drawer change end = made_drawer change.name.now (value_by change) end

-- what is replaced below a heading and its planning line, whose end is this; none where a line would be read otherwise

abbrev pub changed_found : PropertyChange → List ℕ → List ℕ → Option (List (List ℕ)) → Option Put
changed_found change below end None = new_drawer change end
changed_found change below end (Some drawer) = changed_lines change below (length (concat drawer)) drawer

unfoldable pub changed_drawer : PropertyChange → List ℕ → List ℕ → Option Put
changed_drawer change below end = changed_found change below end (drawer_at (lines below))

-- what code puts, as it is defined

abbrev pub put_of : DrawerPut → Put
put_of put = record { deleted = put.deleted; inserted = string_bytes put.inserted }

abbrev pub GivesPut : {E : Type 0} → Result (Option DrawerPut) E → Option Put → Type 0
GivesPut result put = IfOk result (λ given. option_map put_of given ≡ put)
