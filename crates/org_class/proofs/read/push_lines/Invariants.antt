use Rattle.std.proofs.Common.{◌≡◌, ◌++◌, ◌+◌, ◌≤◌, map, length, drop}
use Rattle.org_lines.specs.Cuts.{lines}
use Rattle.org_class.specs.Classes.{StandStill, lines_of_setting}
use Rattle.org_base.specs.Spans.{bytes_in}
use Rattle.org_class.proofs.read.push_lines.Given as goal

-- the setting lines so far, and those among the lines left, are all
abbrev pub invariant-loop-line : goal.invariant-loop-line
invariant-loop-line g l = record {
  few : l.place + length l.line-iterator ≤ l.fn.section.len;
  all : l.texts ++ lines_of_setting (map (λ c. c.bytes) l.line-iterator) (drop l.place l.classes) ≡ l.fn.texts ++ lines_of_setting (lines (bytes_in (g.T.Text.content l.text) l.fn.section)) l.classes;
  still : StandStill l.fn.texts l.texts;
}
