-- A section of one line, which is its heading.
use Rattle.std.proofs.Common.{◌≡◌, ℕ, ◌+◌, ◌≤◌, ◌<◌, ◌^◌, Some, List, [], ◌∷◌, length, get_or, refl, sym, ap, ◌∙◌, arith, append-nil}
use Rattle.std.specs.List.{concat}
use Rattle.org_base.specs.Spans.{bytes_in}
use Rattle.org_base.specs.declared.span.Span.{Span}
use Rattle.org_class.specs.Classes.{section_classes}
use Rattle.org_class.specs.declared.class.Class.{Class}
use Rattle.org_class.specs.declared.class.Class.TheVariants.{Heading}
use Rattle.org_entry.specs.Alone.{IsHeadingAlone}
use Rattle.org_entry.specs.Details.{DetailsView, nothing}
use Rattle.org_entry.specs.Draft.{into_entry, nothing_said, with_line}
use Rattle.org_entry.specs.Entry.{active_at, entry_of, entry_of_lines, placed, title_stamps}
use Rattle.org_entry.proofs.ClassLemmas.{length-classes}
use Rattle.org_entry.proofs.DraftLemmas.{lines_end}
use Rattle.org_head.specs.Head.{head_of}
use Rattle.org_head.specs.declared.head.Head.{Head}
use Rattle.org_lines.specs.Cuts.{lines}
use Rattle.org_lines.proofs.LineLemmas.{concat-lines, length_range}
use Rattle.org_settings.specs.Settings.{FileSettings}

-- one class that is a heading's
pub one_class : (cs : List Class) (d : Class) → length cs ≡ 1 → get_or cs 0 d ≡ Heading → cs ≡ Heading ∷ []
one_class [] d one is = absurd (omega arith)
one_class (c ∷ []) d one is = ap (λ k. k ∷ []) is
one_class (c ∷ e ∷ cs) d one is = absurd (omega arith)

-- a section of that class, where its bytes are lent
pub alone_is : (text : List ℕ) (section : Span) (line : List ℕ) (cs : List Class) → line ≡ bytes_in text section → cs ≡ section_classes (bytes_in text section) → cs ≡ Heading ∷ [] → IsHeadingAlone text section line
alone_is text section line cs lent belongs one = record { bytes = lent; class = ap section_classes lent ∙ sym belongs ∙ one }

-- a text of one line is that line
one_line : (text : List ℕ) (ls : List (List ℕ)) → lines text ≡ ls → length ls ≡ 1 → lines text ≡ text ∷ []
one_line text [] are one = absurd (omega arith)
one_line text (l ∷ []) are one = are ∙ ap (λ k. k ∷ []) (sym (append-nil l) ∙ ap concat (sym are) ∙ concat-lines text)
one_line text (l ∷ m ∷ ls) are one = absurd (omega arith)

-- what a heading line says
pub heading_says : (settings : FileSettings) (line text : List ℕ) (head : Head) (details : DetailsView) →
    text ≡ line → head ≡ head_of settings line → details ≡ record nothing { stamps = active_at head.title.at (bytes_in line head.title) } →
    record { text = text; head = Some head; details = details } ≡ into_entry (with_line settings nothing_said (record { at = 0; class = Heading; bytes = line }))
heading_says settings line text head details said parts all =
    let title = (head_of settings line).title in
    let here : title.at ≡ 0 + title.at = omega arith in
    let found : active_at head.title.at (bytes_in line head.title) ≡ title_stamps settings 0 line = ap (λ (h : Head). active_at h.title.at (bytes_in line h.title)) parts ∙ ap (λ n. active_at n (bytes_in line title)) here in
    rw (said, all, found, parts) refl

-- what such a section says
pub alone_says : (settings : FileSettings) (text : List ℕ) (section : Span) (line : List ℕ) → IsHeadingAlone text section line →
    into_entry (with_line settings nothing_said (record { at = 0; class = Heading; bytes = line })) ≡ entry_of settings (bytes_in text section)
alone_says settings text section line is =
    let count : length (lines line) ≡ 1 = sym (length-classes (lines line)) ∙ ap length is.class in
    let one : lines line ≡ line ∷ [] = one_line line (lines line) refl count in
    lines_end settings (record { at = 0; class = Heading; bytes = line } ∷ [])
    ∙ ap (λ ls. entry_of_lines settings (placed 0 ls (Heading ∷ []))) (sym one)
    ∙ ap (λ cs. entry_of_lines settings (placed 0 (lines line) cs)) (sym is.class)
    ∙ ap (entry_of settings) is.bytes

-- its line is no longer than a place can be
pub alone_fits : (text : List ℕ) (section : Span) (line : List ℕ) → section.at + section.len ≤ length text → section.len < 2 ^ 32 → IsHeadingAlone text section line → length line < 2 ^ 32
alone_fits text section line inside small is =
    let count : length line ≡ section.len = ap length is.bytes ∙ length_range text section.at section.len inside in
    omega (arith, count, small)
