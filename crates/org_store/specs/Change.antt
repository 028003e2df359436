-- A change of a text as a value (profile).
use Rattle.std.specs.Option.{option_map_or}
use Rattle.std.specs.Prelude.{◌≡◌, ◌+◌, ◌≤◌, ℕ, List, length, Result, Ok, Err}
use Rattle.std.specs.List.{flat_map}
use Rattle.org_base.specs.Spans.{bytes_in}
use Rattle.org_base.specs.declared.fault.Fault.{Fault}
use Rattle.org_base.specs.declared.fault.Fault.TheVariants.{Plain}
use Rattle.org_base.specs.declared.span.Span.{Span}
use Rattle.org_class.specs.Changes.{first_touched, new_sections, touched_end}
use Rattle.org_class.specs.Classes.{section_settings, setting_lines}
use Rattle.org_class.specs.Sections.{sections}
use Rattle.org_store.specs.File.{FileView, IsChanged, lines_between, list_after}
use Rattle.org_store.specs.Sections.{SectionView}
use Rattle.org_store.specs.declared.change.Change.{Change}
use Rattle.org_text.specs.Replace.{refusal_of, replace}

-- what it replaces lies in the text
abbrev pub LiesIn : List ℕ → Change → Type 0
LiesIn text change = change.at + change.del ≤ length text

-- the text with it
abbrev pub edited : List ℕ → Change → List ℕ
edited text change = replace text change.at change.del change.ins.now

-- a text with a part replaced, or why it is refused
abbrev pub replaced_text : List ℕ → ℕ → ℕ → List ℕ → Result (List ℕ) Fault
replaced_text text at del ins = option_map_or (λ code. Err (Plain code)) (refusal_of text at del ins) (Ok (replace text at del ins))

-- a text with a change, or why the change is refused
abbrev pub edited_text : List ℕ → Change → Result (List ℕ) Fault
edited_text text change = replaced_text text change.at change.del change.ins.now

-- the first section that it touches
abbrev pub first_edited : List ℕ → Change → ℕ
first_edited text change = first_touched text change.at change.del change.ins.now

-- the section after the last one
abbrev pub edited_end : List ℕ → Change → ℕ
edited_end text change = touched_end text change.at change.del

-- the sections that stand in their place
abbrev pub edited_sections : List ℕ → Change → List (List ℕ)
edited_sections text change = new_sections text change.at change.del change.ins.now

-- a part of another text has these sections
abbrev pub AreEdited : List ℕ → Change → List ℕ → Span → Type 0
AreEdited old change new part = sections (bytes_in new part) ≡ edited_sections old change

-- what is kept of the text's sections, with the new ones in the place of those that it touches
abbrev pub edited_list : List SectionView → List ℕ → Change → List SectionView
edited_list list text change = list_after list text change.at change.del change.ins.now

-- the new sections have the setting lines of those that it touches
abbrev pub KeepsLines : List ℕ → Change → Type 0
KeepsLines text change =
    flat_map section_settings (edited_sections text change) ≡ lines_between text (first_edited text change) (edited_end text change)

-- another text has the same setting lines
abbrev pub SameLines : List ℕ → List ℕ → Type 0
SameLines old new = setting_lines new ≡ setting_lines old

-- this is what it makes of a file, with this serial
abbrev pub IsChangedBy : FileView → Change → ℕ → FileView → Type 0
IsChangedBy old change serial new = IsChanged old change.at change.del change.ins.now serial new
