use Rattle.std.proofs.Common.{◌≡◌, ◌+◌, ◌≤◌, map, length}
use Rattle.std.specs.List.{concat}
use Rattle.org_amend.specs.Searches.{searched}
use Rattle.org_lines.specs.Cuts.{lines_in}
use Rattle.org_amend.proofs.search.search_lines.Given as goal

-- what is found among the lines that are left is what is found among all
abbrev pub invariant-loop-line : goal.invariant-loop-line
invariant-loop-line g l = record {
  few : l.place + length l.line-iterator ≤ l.fn.section.len;
  room : l.at + length (concat (map (λ c. c.bytes) l.line-iterator)) ≡ l.fn.section.at + l.fn.section.len;
  all : searched g.S.Search.known_after g.S.Search.ends l.known l.classes l.place l.at (map (λ c. c.bytes) l.line-iterator)
      ≡ searched g.S.Search.known_after g.S.Search.ends l.fn.start l.classes 0 l.fn.section.at (lines_in (g.T.Text.content l.text) l.fn.section);
}
