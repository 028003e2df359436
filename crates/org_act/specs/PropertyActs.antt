-- Giving the heading on a line of a text a property, or taking one away (Org manual 9.6, "Property Syntax").
use Rattle.std.specs.Prelude.{ℕ, ◌+◌, if◌then◌else◌, List, length, drop, Option, Some, None, Result, Err}
use Rattle.org_act.specs.Completing.{no_heading}
use Rattle.org_act.specs.Lines.{heading_at, line_end}
use Rattle.org_act.specs.Planning.{heading_line, if_sized, line_below}
use Rattle.org_act.specs.declared.act.Refusal.{Refusal}
use Rattle.org_act.specs.declared.act.Refusal.TheVariants as refusal
use Rattle.org_act.specs.declared.property_act.PropertyAct.{PropertyAct}
use Rattle.org_amend.specs.DrawerPuts.{Put, changed_drawer}
use Rattle.org_amend.specs.declared.head.Unreadable.TheVariants as why
use Rattle.org_amend.specs.declared.property_change.PropertyChange.{PropertyChange}
use Rattle.org_stamp.specs.Pair.{is_planning}
use Rattle.org_text.specs.Replace.{replace}

-- a text with what is put at a place, unless its line would be read otherwise or the text is too long
abbrev pub with_drawer : List ℕ → ℕ → Option Put → Result (List ℕ) Refusal
with_drawer text at None = Err (refusal.Unreadable why.Property)
with_drawer text at (Some put) = if_sized (replace text at put.deleted put.inserted)

-- the text with the drawer changed that stands at a place, behind a line that ends so
unfoldable pub given_below : PropertyChange → List ℕ → ℕ → List ℕ → Result (List ℕ) Refusal
given_below change text at end = with_drawer text at (changed_drawer change (drop at text) end)

-- the same of the heading that begins at a place: below its planning line, if it has one, or below its own
unfoldable pub given_there : PropertyChange → List ℕ → ℕ → Result (List ℕ) Refusal
given_there change text at =
    let h = heading_line text at in
    let line = line_below text at in
    if is_planning line then given_below change text (at + length h + length line) (line_end line) else given_below change text (at + length h) (line_end h)

abbrev pub given_if : PropertyChange → List ℕ → Option ℕ → Result (List ℕ) Refusal
given_if change text None = Err no_heading
given_if change text (Some at) = given_there change text at

-- what the act makes of a text, or why it is refused
unfoldable pub given_text : PropertyAct → List ℕ → Result (List ℕ) Refusal
given_text a text = given_if a.change text (heading_at text a.line)

-- the same by the heading on another line
abbrev pub given_on : PropertyAct → ℕ → List ℕ → Result (List ℕ) Refusal
given_on a line = given_text (record a { line = line })
