use Rattle.std.proofs.Common.{◌≡◌, ◌++◌, ◌+◌, ◌≤◌, map, length, drop}
use Rattle.org_lines.specs.Cuts.{lines}
use Rattle.org_class.specs.Classes.{section_classes}
use Rattle.org_base.specs.Spans.{bytes_in}
use Rattle.org_class.specs.Stages.{classes_at}
use Rattle.org_class.proofs.section.classes.Given as goal

-- the classes so far, and those of the lines that are left at the stage, are all
abbrev pub invariant-loop-line : goal.invariant-loop-line
invariant-loop-line g l = record {
  to_the_end : l.rest.at + l.rest.len ≡ l.fn.section.at + l.fn.section.len;
  left : lines (bytes_in (g.T.Text.content l.text) l.rest) ≡ map (λ c. c.bytes) l.line-iterator;
  passed : drop l.number (lines (bytes_in (g.T.Text.content l.text) l.fn.section)) ≡ map (λ c. c.bytes) l.line-iterator;
  few : l.number + length l.line-iterator ≤ l.fn.section.len;
  all : l.classes ++ classes_at l.stage (map (λ c. c.bytes) l.line-iterator) ≡ section_classes (bytes_in (g.T.Text.content l.text) l.fn.section);
}
