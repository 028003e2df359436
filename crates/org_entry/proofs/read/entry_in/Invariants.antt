use Rattle.std.proofs.Common.{◌≡◌, ◌+◌, ◌≤◌, map, length, drop}
use Rattle.std.specs.List.{concat}
use Rattle.org_base.specs.Spans.{bytes_in}
use Rattle.org_entry.specs.Draft.{nothing_said, with_lines}
use Rattle.org_entry.specs.Entry.{placed}
use Rattle.org_lines.specs.Cuts.{lines}
use Rattle.org_entry.proofs.read.entry_in.Given as goal

-- what the lines so far say, and what those that are left say, is what all say
abbrev pub invariant-loop-line : goal.invariant-loop-line
invariant-loop-line g l = record {
  behind : length l.draft.text ≤ l.at;
  few : l.place + length l.line-iterator ≡ length l.classes;
  room : l.at + length (concat (map (λ c. c.bytes) l.line-iterator)) ≡ l.fn.section.len;
  left : concat (map (λ c. c.bytes) l.line-iterator) ≡ drop l.at (bytes_in (g.T.Text.content l.text) l.fn.section);
  all : with_lines l.settings l.draft (placed l.at (map (λ c. c.bytes) l.line-iterator) (drop l.place l.classes)) ≡ with_lines l.settings nothing_said (placed 0 (lines (bytes_in (g.T.Text.content l.text) l.fn.section)) l.classes);
}
