-- Lines that say that a keyword changed, as Org writes them (Org manual 9.6, "Tracking TODO state changes"; that the first
-- inactive stamp of the line is the time, and that the keyword is one of the file: Org's log mode).
use Rattle.std.specs.Prelude.{ℕ, ◌+◌, Bool, if◌then◌else◌, List, [], ◌∷◌, Option, None, Some, codes, drop, nat_eq, position, take, ◌==◌}
use Rattle.std.specs.List.{starts_with}
use Rattle.std.specs.Option.{option_and_then, option_map}
use Rattle.org_base.specs.Words.{trim_start}
use Rattle.org_settings.specs.Keywords.{Keyword, keyword_place}
use Rattle.org_stamp.specs.declared.stamp.Found.{Found}
use Rattle.org_stamp.specs.declared.stamp.Stamp.{Stamp}
use Rattle.org_trace.specs.declared.entry.StateChange.{StateChange}

-- what stands behind a text at the front
abbrev pub behind : List ℕ → List ℕ → ℕ → Option (List ℕ)
behind front text len = if starts_with nat_eq text front then Some (drop len text) else None

-- what stands behind the first quotation mark of an item `- State "`
abbrev pub item_text : List ℕ → Option (List ℕ)
item_text line = option_and_then (λ item. behind (codes "State \"") (trim_start item) 7) (behind (codes "- ") (trim_start line) 2)

-- where the next quotation mark stands
abbrev pub quote_place : List ℕ → Option ℕ
quote_place text = position (λ b. b == 34) text

-- the place of the keyword up to the next quotation mark
abbrev pub quoted_keyword : List Keyword → List ℕ → Option ℕ
quoted_keyword ks text = option_and_then (λ end. keyword_place ks (take end text)) (quote_place text)

-- the place of the keyword that stands behind the word `from` between quotation marks
abbrev pub keyword_before : List Keyword → List ℕ → Option ℕ
keyword_before ks text =
    option_and_then (λ rest. option_and_then (quoted_keyword ks) (behind (codes "\"") (trim_start rest) 1)) (behind (codes "from") (trim_start text) 4)

-- to a keyword, from the one that is said behind it
abbrev pub change_to : List Keyword → List ℕ → ℕ → StateChange
change_to ks rest to = record { to = to; from = keyword_before ks rest }

-- the change of a text that begins with the keyword, where a quotation mark stands at a place
abbrev pub change_at : List Keyword → List ℕ → ℕ → Option StateChange
change_at ks text end = option_map (change_to ks (drop (end + 1) text)) (keyword_place ks (take end text))

-- the same up to the first one
abbrev pub change_in : List Keyword → List ℕ → Option StateChange
change_in ks text = option_and_then (change_at ks text) (quote_place text)

-- the change that a line says
abbrev pub state_change : List Keyword → List ℕ → Option StateChange
state_change ks line = option_and_then (change_in ks) (item_text line)

-- the first of some stamps that is inactive
abbrev pub first_inactive : List Found → Option Stamp
first_inactive [] = None
first_inactive (found ∷ fs) = if found.stamp.active then first_inactive fs else Some found.stamp
