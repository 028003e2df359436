-- The parts of a text that is read by its settings, in words of both.
use Rattle.std.specs.Prelude.{ℕ, List}
use Rattle.org_base.specs.Spans.{bytes_in}
use Rattle.org_base.specs.declared.span.Span.{Span}
use Rattle.org_entry.specs.Entry.{entry_of}
use Rattle.org_entry.specs.declared.entry.Entry.{Entry}
use Rattle.org_entry.specs.declared.read_context.ReadContext.{ReadContext}

-- the bytes of a part of the text
abbrev pub part_of : {T : Type 0} → (T → List ℕ) → ReadContext T → Span → List ℕ
part_of content context part = bytes_in (content context.text.now) part

-- what a part says as a section
abbrev pub entry_in : {T : Type 0} → (T → List ℕ) → ReadContext T → Span → Entry
entry_in content context part = entry_of context.settings.now (part_of content context part)
