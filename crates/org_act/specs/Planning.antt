-- Planning the heading on a line of a text: a date gets under a keyword, or the stamps there go (Org Syntax, "Planning").
use Rattle.std.specs.Prelude.{ℕ, ◌+◌, nat_lt, if◌then◌else◌, List, [], ◌++◌, length, drop, Option, Some, None, Result, Ok, Err, IfOk, IfSome, codes, string_bytes, ◌≡◌, ◌≤◌}
use Rattle.std.specs.Option.{option_map}
use Rattle.org_act.specs.Completing.{no_heading}
use Rattle.org_act.specs.Lines.{first_line, has_feed, heading_at, line_end}
use Rattle.org_act.specs.declared.act.Refusal.{Refusal}
use Rattle.org_act.specs.declared.act.Refusal.TheVariants as refusal
use Rattle.org_act.specs.declared.planning.Planning.{Planning}
use Rattle.org_act.specs.declared.planning.Put.{Put as CodePut}
use Rattle.org_amend.specs.Planning.{dated_line, undated_line}
use Rattle.org_amend.specs.declared.typed.TypedDate.{TypedDate}
use Rattle.org_base.specs.declared.code.Code.TheVariants as code
use Rattle.org_base.specs.declared.fault.Fault.TheVariants as fault
use Rattle.org_stamp.specs.Pair.{is_planning}
use Rattle.org_stamp.specs.declared.pair.PlanningKeyword.{PlanningKeyword}
use Rattle.org_text.specs.Replace.{max_bytes, replace}

-- how many bytes under a heading are replaced, and what stands there then
pub record Put : Type 0 where
  pub deleted : ℕ
  pub inserted : List ℕ

-- a line under a heading: behind a line feed where the heading's line has none
abbrev pub under_heading : List ℕ → List ℕ → List ℕ
under_heading h line = if has_feed h then line else codes "\n" ++ line

-- a line in the place of the one that stands under a heading, if that is a planning line; else before it
abbrev pub put_line : List ℕ → List ℕ → List ℕ → Put
put_line h line new =
    if is_planning line then record { deleted = length line; inserted = new } else record { deleted = 0; inserted = under_heading h new }

-- what is left of the line that stands under a heading
abbrev pub put_left : List ℕ → List ℕ → Put
put_left line left = record { deleted = length line; inserted = left }

-- nothing is replaced
abbrev pub put_nothing : Put
put_nothing = record { deleted = 0; inserted = [] }

-- what a date under a keyword replaces under a heading line, of the line there; none where it would be read otherwise
abbrev pub dated_put : PlanningKeyword → TypedDate → List ℕ → List ℕ → Option Put
dated_put word date h line = option_map (put_line h line) (dated_line word date line (line_end h))

-- what is replaced where the stamps of a keyword go, of the line there and the next one; the same
abbrev pub undated_put : PlanningKeyword → List ℕ → List ℕ → Option Put
undated_put word line next = if is_planning line then option_map (put_left line) (undated_line word line next) else Some put_nothing

-- what an act replaces under a heading line
abbrev pub planning_put : PlanningKeyword → Option TypedDate → List ℕ → List ℕ → List ℕ → Option Put
planning_put word None h line next = undated_put word line next
planning_put word (Some date) h line next = dated_put word date h line

-- the same of an act
abbrev pub act_put : Planning → List ℕ → List ℕ → List ℕ → Option Put
act_put p h line next = planning_put p.keyword p.date h line next

-- a text, unless it is too long
abbrev pub if_sized : List ℕ → Result (List ℕ) Refusal
if_sized text = if nat_lt max_bytes (length text) then Err (refusal.Fault (fault.Plain code.Size)) else Ok text

-- a text with what is put at a place, unless there is none or it is too long
abbrev pub with_put : List ℕ → ℕ → Option Put → Result (List ℕ) Refusal
with_put text at None = Err refusal.Misread
with_put text at (Some put) = if_sized (replace text at put.deleted put.inserted)

-- the lines of a heading that begins at a place: its own, the one under it, and the next one

abbrev pub heading_line : List ℕ → ℕ → List ℕ
heading_line text at = first_line (drop at text)

abbrev pub line_below : List ℕ → ℕ → List ℕ
line_below text at = first_line (drop (at + length (heading_line text at)) text)

abbrev pub next_line : List ℕ → ℕ → List ℕ
next_line text at = first_line (drop (at + length (heading_line text at) + length (line_below text at)) text)

-- what is put under the heading that begins at a place
abbrev pub put_at : Planning → List ℕ → ℕ → Option Put
put_at p text at = act_put p (heading_line text at) (line_below text at) (next_line text at)

-- the text with the heading that begins at a place planned
unfoldable pub planned_at : Planning → List ℕ → ℕ → Result (List ℕ) Refusal
planned_at p text at = with_put text (at + length (heading_line text at)) (put_at p text at)

-- the same by that place, if there is one
abbrev pub planned_if : Planning → List ℕ → Option ℕ → Result (List ℕ) Refusal
planned_if p text None = Err no_heading
planned_if p text (Some at) = planned_at p text at

-- what planning the heading on a line makes of a text, or why it is refused
unfoldable pub planned_text : Planning → List ℕ → Result (List ℕ) Refusal
planned_text p text = planned_if p text (heading_at text p.line)

-- the same by the heading on another line
abbrev pub planned_on : Planning → ℕ → List ℕ → Result (List ℕ) Refusal
planned_on p line = planned_text (record p { line = line })

-- what code puts, as it is defined

abbrev pub put_of : CodePut → Put
put_of put = record { deleted = put.deleted; inserted = string_bytes put.inserted }

abbrev pub puts_of : Option CodePut → Option Put
puts_of put = option_map put_of put

-- this is put, or nothing is where it would be read otherwise, unless it's refused
abbrev pub GivesPut : {E : Type 0} → Result (Option CodePut) E → Option Put → Type 0
GivesPut result put = IfOk result (λ given. puts_of given ≡ put)

-- no more is replaced than a line
abbrev pub ReplacesNoMore : {E : Type 0} → Result (Option CodePut) E → List ℕ → Type 0
ReplacesNoMore result line = IfOk result (λ given. IfSome given (λ put. put.deleted ≤ length line))
