-- What is said of a finding: what is wrong, the remedy, and what stands in the way (profile).
use Rattle.std.specs.Prelude.{ℕ, ◌+◌, ◌-◌, ◌^◌, Bool, true, false, ◌||◌, nat_le, nat_lt, min, if◌then◌else◌, Option, Some, None, List, [], ◌∷◌, ◌++◌, codes, decimal, length, slice_get, take, drop}
use Rattle.org_check.specs.Kinds.{entry_of}
use Rattle.org_check.specs.declared.beside_kinds.BesideKind.TheVariants.{PlanningCase}
use Rattle.org_check.specs.declared.finding.Cause.{Cause}
use Rattle.org_check.specs.declared.finding.Cause.TheVariants.{Blank, Drawer, Planning, Text, InDrawer, Other, NoHeading}
use Rattle.org_check.specs.declared.finding.Finding.{Finding}
use Rattle.org_check.specs.declared.kind.Kind.{Kind}
use Rattle.org_check.specs.declared.kind.Kind.TheVariants as kind
use Rattle.org_check.specs.declared.sentence.TheConstants.{LONGEST_QUOTE}

-- where a finding begins in the text, from 0, and in its line, from 1, as a machine counts
abbrev pub at_of : Finding → ℕ
at_of f = min (f.shown.place + f.shown.line_at) (2 ^ 64 - 1)

abbrev pub column_of : Finding → ℕ
column_of f = min (f.shown.place + 1) (2 ^ 64 - 1)

-- the line that a remedy names
abbrev pub other_line_of : Option Cause → Option ℕ
other_line_of None = None
other_line_of (Some (Blank line)) = Some line
other_line_of (Some (Drawer line)) = Some line
other_line_of (Some (Planning line)) = Some line
other_line_of (Some (Text line)) = Some line
other_line_of (Some (InDrawer line)) = Some line
other_line_of (Some (Other line)) = Some line
other_line_of (Some NoHeading) = None

-- a place of a text isn't inside a character
abbrev pub begins_character_with : Option ℕ → Bool
begins_character_with None = true
begins_character_with (Some byte) = nat_lt byte 128 || nat_le 192 byte

abbrev pub begins_character : List ℕ → ℕ → Bool
begins_character text at = begins_character_with (slice_get text at)

-- where the front of a long text ends that is quoted
abbrev pub quote_end : List ℕ → ℕ
quote_end text =
    if begins_character text LONGEST_QUOTE then LONGEST_QUOTE
    else (if begins_character text (LONGEST_QUOTE - 1) then LONGEST_QUOTE - 1
    else (if begins_character text (LONGEST_QUOTE - 2) then LONGEST_QUOTE - 2 else LONGEST_QUOTE - 3))

-- a text as it is quoted: of a long one its front
abbrev pub quote_of : List ℕ → List ℕ
quote_of text = if nat_le (length text) LONGEST_QUOTE then text else take (quote_end text) text ++ codes "..."

-- what stands in the way
abbrev pub cause_text : Cause → List ℕ
cause_text (Blank line) = codes "; line " ++ (decimal line ++ codes " is blank")
cause_text (Drawer line) = codes "; a drawer begins in line " ++ (decimal line ++ [])
cause_text (Planning line) = codes "; line " ++ (decimal line ++ codes " is the planning line")
cause_text (Text line) = codes "; line " ++ (decimal line ++ codes " stands between")
cause_text (InDrawer line) = codes "; take it out of the drawer that begins in line " ++ (decimal line ++ [])
cause_text (Other line) = codes " (line " ++ (decimal line ++ codes ")")
cause_text NoHeading = codes "; no heading stands above"

-- where planning is to be moved
abbrev pub move_text : Cause → List ℕ
move_text (Planning line) = codes "; write it at the end of the line under its heading"
move_text _ = codes "; write it directly under its heading"

-- of such a kind it is said
abbrev pub moves : Kind → Bool
moves (kind.Planning k) = true
moves (kind.Beside PlanningCase) = true
moves _ = false

abbrev pub why_text : Kind → Cause → List ℕ
why_text k cause = (if moves k then move_text cause else []) ++ cause_text cause

abbrev pub why_of : Kind → Option Cause → List ℕ
why_of k None = []
why_of k (Some cause) = why_text k cause

-- the text that a finding is about, if its kind quotes it
abbrev pub quote_if : Bool → List ℕ → List ℕ
quote_if true text = quote_of text ++ codes ": "
quote_if false text = []

-- what is said of a finding whose place has this text: the text, the sentence of its kind, and what stands in the way
abbrev pub sentence_of : Finding → List ℕ → List ℕ
sentence_of f text = quote_if (entry_of f.kind).quotes text ++ ((entry_of f.kind).sentence ++ why_of f.kind f.cause)

-- of a text the part at a finding's place, with a few bytes more than are quoted, which show that it is longer
abbrev pub shown_part : Finding → List ℕ → List ℕ
shown_part f content = take (min f.shown.len (LONGEST_QUOTE + 4)) (drop (at_of f) content)

-- what is said of a finding of a text
abbrev pub said_of : Finding → List ℕ → List ℕ
said_of f content = sentence_of f (shown_part f content)
