-- Adding a heading to a text: behind all others, or as the last one below another (Org Syntax, "Headings and Sections").
use Rattle.std.specs.Prelude.{ℕ, ◌+◌, ◌==◌, if◌then◌else◌, List, [], ◌++◌, length, take, drop, Option, Some, None, Result, Ok, Err, codes}
use Rattle.org_act.specs.Completing.{no_heading}
use Rattle.org_act.specs.Lines.{first_line, has_feed, heading_at, line_end, subtree_end}
use Rattle.org_act.specs.Planning.{if_sized}
use Rattle.org_act.specs.declared.act.Refusal.{Refusal}
use Rattle.org_act.specs.declared.act.Refusal.TheVariants as refusal
use Rattle.org_act.specs.declared.addition.Addition.{Addition}
use Rattle.org_act.specs.declared.addition.Spot.{Spot}
use Rattle.org_amend.specs.Entries.{entry_text}
use Rattle.org_amend.specs.declared.entry.NewEntry.{NewEntry}
use Rattle.org_amend.specs.declared.head.Unreadable.{Unreadable}
use Rattle.org_base.specs.declared.fault.Fault.{Fault}
use Rattle.org_class.specs.Heading.{stars}
use Rattle.org_complete.specs.Completion.{sized}
use Rattle.org_lines.specs.Cuts.{lines}
use Rattle.org_settings.specs.Settings.{FileSettings}
use Rattle.org_store.specs.Outline.{file_settings}
use Rattle.org_text.specs.Replace.{replace}

-- where those end that are below a heading line that begins at a place
abbrev pub end_below : List ℕ → List ℕ → ℕ → ℕ
end_below text h at = subtree_end (stars h) (at + length h) (lines (drop (at + length h) text))

-- behind all others
abbrev pub last_spot : List ℕ → Spot
last_spot text = record { at = length text; level = 1 }

-- the last one below a heading line that begins at a place, one level deeper
abbrev pub spot_below : List ℕ → List ℕ → ℕ → Spot
spot_below text h at = record { at = end_below text h at; level = stars h + 1 }

abbrev pub spot_at : List ℕ → Option ℕ → Option Spot
spot_at text None = None
spot_at text (Some at) = Some (spot_below text (first_line (drop at text)) at)

-- where a heading goes, below the one on a line, if there is one, or behind all others
unfoldable pub spot_of : List ℕ → Option ℕ → Option Spot
spot_of text None = Some (last_spot text)
spot_of text (Some line) = spot_at text (heading_at text line)

-- what stands between a text and a line behind it: a line feed where the text's last line hasn't one
unfoldable pub gap_behind : List ℕ → List ℕ
gap_behind front = if length front == 0 then [] else (if has_feed front then [] else codes "\n")

-- how a new line of a text ends: as its first one
abbrev pub break_or_feed : List ℕ → List ℕ
break_or_feed end = if length end == 0 then codes "\n" else end

unfoldable pub break_of : List ℕ → List ℕ
break_of text = break_or_feed (line_end (first_line text))

-- an entry at a level
abbrev pub at_level : NewEntry → ℕ → NewEntry
at_level entry level = record entry { head = record entry.head { level = level } }

-- a text with an entry at a place, unless that can't be written
abbrev pub with_entry : List ℕ → ℕ → Result (List ℕ) Unreadable → Result (List ℕ) Refusal
with_entry text at (Err why) = Err (refusal.Unreadable why)
with_entry text at (Ok entry) = if_sized (replace text at 0 (gap_behind (take at text) ++ entry))

-- a text with the entry of an act, by the file's settings and its place
abbrev pub added_at : Addition → List ℕ → FileSettings → Option Spot → Result (List ℕ) Refusal
added_at a text settings None = Err no_heading
added_at a text settings (Some spot) = with_entry text spot.at (entry_text settings (at_level a.entry spot.level) (break_of text))

-- the same by what is read as the file, with what stands behind the text
abbrev pub added_whole : Addition → List ℕ → List ℕ → Result (List ℕ) Refusal
added_whole a text whole = added_at a text (file_settings whole) (spot_of text a.under)

abbrev pub added_in : Addition → List ℕ → Result (List ℕ) Fault → Result (List ℕ) Refusal
added_in a text (Err fault) = Err (refusal.Fault fault)
added_in a text (Ok whole) = added_whole a text whole

-- what adding a heading makes of a text, or why it is refused
unfoldable pub added_text : Addition → List ℕ → Result (List ℕ) Refusal
added_text a text = added_in a text (sized (text ++ a.behind.now))
