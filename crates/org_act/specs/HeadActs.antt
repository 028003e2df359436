-- Changing the heading line on a line of a text (Org Syntax, "Headings").
use Rattle.std.specs.Prelude.{ℕ, List, ◌++◌, length, Option, Some, None, Result, Ok, Err}
use Rattle.org_act.specs.Completing.{no_heading}
use Rattle.org_act.specs.Lines.{heading_at}
use Rattle.org_act.specs.Planning.{heading_line, if_sized}
use Rattle.org_act.specs.declared.act.Refusal.{Refusal}
use Rattle.org_act.specs.declared.act.Refusal.TheVariants as refusal
use Rattle.org_act.specs.declared.head_act.HeadAct.{HeadAct}
use Rattle.org_amend.specs.HeadChanges.{changed_head}
use Rattle.org_amend.specs.declared.head.Unreadable.{Unreadable}
use Rattle.org_amend.specs.declared.head_change.HeadChange.{HeadChange}
use Rattle.org_base.specs.declared.fault.Fault.{Fault}
use Rattle.org_complete.specs.Completion.{sized}
use Rattle.org_settings.specs.Settings.{FileSettings}
use Rattle.org_store.specs.Outline.{file_settings}
use Rattle.org_text.specs.Replace.{replace}

-- a text with a line at a place, where one of that length stands
abbrev pub put_line : List ℕ → ℕ → ℕ → List ℕ → Result (List ℕ) Refusal
put_line text at len line = if_sized (replace text at len line)

-- the same, unless there is no such line
abbrev pub with_line : List ℕ → ℕ → ℕ → Result (List ℕ) Unreadable → Result (List ℕ) Refusal
with_line text at len (Err why) = Err (refusal.Unreadable why)
with_line text at len (Ok line) = put_line text at len line

-- the text with the heading line that begins at a place changed, by the file's settings
unfoldable pub changed_there : HeadChange → List ℕ → FileSettings → ℕ → Result (List ℕ) Refusal
changed_there change text settings at =
    with_line text at (length (heading_line text at)) (changed_head settings change (heading_line text at))

-- the same by what is read as the file
abbrev pub changed_of : HeadChange → List ℕ → List ℕ → ℕ → Result (List ℕ) Refusal
changed_of change text whole at = changed_there change text (file_settings whole) at

-- the same by that place, if there is one
abbrev pub changed_at : HeadChange → List ℕ → FileSettings → Option ℕ → Result (List ℕ) Refusal
changed_at change text settings None = Err no_heading
changed_at change text settings (Some at) = changed_there change text settings at

-- the same by what is read as the file, with what stands behind the text
abbrev pub changed_whole : HeadAct → List ℕ → List ℕ → Result (List ℕ) Refusal
changed_whole a text whole = changed_at a.change text (file_settings whole) (heading_at text a.line)

abbrev pub changed_in : HeadAct → List ℕ → Result (List ℕ) Fault → Result (List ℕ) Refusal
changed_in a text (Err fault) = Err (refusal.Fault fault)
changed_in a text (Ok whole) = changed_whole a text whole

-- what changing the heading line on a line makes of a text, or why it is refused
unfoldable pub changed_text : HeadAct → List ℕ → Result (List ℕ) Refusal
changed_text a text = changed_in a text (sized (text ++ a.behind.now))

-- the same by the heading on another line
abbrev pub changed_on : HeadAct → ℕ → List ℕ → Result (List ℕ) Refusal
changed_on a line = changed_text (record a { line = line })
