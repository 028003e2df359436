-- What is said so far, and the marks of the sections that are left, are all.
use Rattle.std.proofs.Common.{◌≡◌, ◌++◌, drop}
use Rattle.std.specs.Prelude.{flat_map}
use Rattle.org_check.specs.Marks.{section_marks, text_marks}
use Rattle.org_check.specs.Said.{said}
use Rattle.org_check.proofs.file.check_sections.Given as goal

abbrev pub invariant-loop-span : goal.invariant-loop-span
invariant-loop-span g l =
    said l.found ++ flat_map (section_marks (g.T.Text.content l.text)) (drop l.span-index l.span-items)
    ≡ said l.fn.found ++ text_marks (g.T.Text.content l.text)
