-- The lines of a new heading: its own, its planning line and its body (Org Syntax, "Sections"). What is written is read back:
-- lines that would be read as something else are none.
use Rattle.std.specs.Prelude.{ℕ, Bool, true, false, ◌&&◌, not, ◌==◌, nat_le, if◌then◌else◌, List, [], ◌∷◌, ◌++◌, length, Option, Some, None, is_some, Result, Ok, Err, codes}
use Rattle.std.specs.List.{list_all}
use Rattle.std.specs.Option.{option_and_then}
use Rattle.org_amend.specs.Heads.{head_line, words_of}
use Rattle.org_amend.specs.Places.{drawer_from}
use Rattle.org_amend.specs.Planning.{dated_line, has_feed}
use Rattle.org_amend.specs.declared.entry.NewEntry.{NewEntry}
use Rattle.org_amend.specs.declared.head.Unreadable.{Unreadable}
use Rattle.org_amend.specs.declared.head.Unreadable.TheVariants.{Body, Dates}
use Rattle.org_amend.specs.declared.place.DrawerName.TheVariants.{Any}
use Rattle.org_amend.specs.declared.typed.TypedDate.{TypedDate}
use Rattle.org_base.specs.declared.span.Span.{Span}
use Rattle.org_class.specs.Classes.{section_classes}
use Rattle.org_class.specs.Heading.{begins_heading}
use Rattle.org_class.specs.Sections.{sections}
use Rattle.org_class.specs.declared.class.Class.{Class}
use Rattle.org_class.specs.declared.class.Class.TheVariants.{Heading, Planning, Comment, BlockOpen, Verbatim, BlockEnd, Plain}
use Rattle.org_lines.specs.Cuts.{lines}
use Rattle.org_settings.specs.Settings.{FileSettings}
use Rattle.org_stamp.specs.declared.pair.PlanningKeyword.{PlanningKeyword}
use Rattle.org_stamp.specs.declared.pair.PlanningKeyword.TheVariants.{Deadline, Scheduled}
use Rattle.org_text.specs.Replace.{max_bytes}

-- a line with one more date under a keyword, if there is one; a new line ends so
abbrev pub with_date : PlanningKeyword → Option TypedDate → List ℕ → List ℕ → Option (List ℕ)
with_date word None line end = Some line
with_date word (Some date) line end = dated_line word date line end

-- the planning line of two dates; nothing where there are none
unfoldable pub planning_line : Option TypedDate → Option TypedDate → List ℕ → Option (List ℕ)
planning_line scheduled deadline end = option_and_then (λ line. with_date Scheduled scheduled line end) (with_date Deadline deadline [] end)

-- a body whose last line ends
abbrev pub whole_body : List ℕ → List ℕ
whole_body body = if length body == 0 then [] else (if has_feed body then body else body ++ codes "\n")

-- the class of a line of a body: of text, of a comment or of a block
abbrev pub is_body_class : Class → Bool
is_body_class Comment = true
is_body_class BlockOpen = true
is_body_class Verbatim = true
is_body_class BlockEnd = true
is_body_class Plain = true
is_body_class _ = false

-- the classes of a planning line, where there is one, and of a body
abbrev pub are_below : Bool → List Class → Bool
are_below true (Planning ∷ cs) = list_all is_body_class cs
are_below true cs = false
are_below false cs = list_all is_body_class cs

-- the same with those of a heading before them
abbrev pub are_of_entry : Bool → List Class → Bool
are_of_entry is_planned (Heading ∷ cs) = are_below is_planned cs
are_of_entry is_planned cs = false

-- the part that is all of a text
abbrev pub whole_of : List ℕ → Span
whole_of text = record { at = 0; len = length text }

-- a drawer stands among the lines
abbrev pub has_drawer : List ℕ → List Class → Bool
has_drawer entry cs = is_some (drawer_from Any None cs 0 0 (lines entry))

-- the lines have the classes of an entry's, and no drawer stands among them
abbrev pub says_no_more : Bool → List ℕ → List Class → Bool
says_no_more has_planning entry cs = are_of_entry has_planning cs && not (has_drawer entry cs)

-- the lines are one section, and say no more than a heading, its planning and text
abbrev pub is_section : Bool → List ℕ → Bool
is_section has_planning entry = (length (sections entry) == 1) && says_no_more has_planning entry (section_classes entry)

-- the lines begin with a heading and end with a line feed, and are such a section and not too long
unfoldable pub is_entry : Bool → List ℕ → Bool
is_entry has_planning entry = nat_le (length entry) max_bytes && (begins_heading entry && (has_feed entry && is_section has_planning entry))

-- there is a planning line
abbrev pub is_planned : List ℕ → Bool
is_planned planning = not (length planning == 0)

-- the lines of an entry, one after the other
abbrev pub joined : List ℕ → List ℕ → List ℕ → List ℕ
joined line planning body = line ++ (planning ++ whole_body body)

-- lines that are those of an entry
abbrev pub if_entry : Bool → List ℕ → Result (List ℕ) Unreadable
if_entry has_planning entry = if is_entry has_planning entry then Ok entry else Err Body

-- a heading line with its planning line and a body
unfoldable pub with_body : List ℕ → List ℕ → List ℕ → Result (List ℕ) Unreadable
with_body line planning body = if_entry (is_planned planning) (joined line planning body)

-- the same, where there is such a planning line
abbrev pub with_planning : List ℕ → List ℕ → Option (List ℕ) → Result (List ℕ) Unreadable
with_planning line body None = Err Dates
with_planning line body (Some planning) = with_body line planning body

-- a heading line with two dates and a body
unfoldable pub with_dates : List ℕ → NewEntry → List ℕ → Result (List ℕ) Unreadable
with_dates line entry end = with_planning line entry.body.now (planning_line entry.scheduled entry.deadline end)

-- the same, if the heading line can be written
abbrev pub with_head : NewEntry → List ℕ → Result (List ℕ) Unreadable → Result (List ℕ) Unreadable
with_head entry end (Err why) = Err why
with_head entry end (Ok line) = with_dates line entry end

-- the lines of a new heading in a file with these settings, which end so, or what would be read as something else
unfoldable pub entry_text : FileSettings → NewEntry → List ℕ → Result (List ℕ) Unreadable
entry_text settings entry end = with_head entry end (head_line settings (words_of entry.head) end)
