use Rattle.std.proofs.Common.{◌≡◌, map}
use Rattle.org_lines.specs.Cuts.{lines_in}
use Rattle.org_search.specs.Holds.{lines_hold}
use Rattle.org_search.proofs.scan.TermScan.is_in_section.Given as goal

-- whether one of the lines that are left holds it is whether one of all does
abbrev pub invariant-loop-line : goal.invariant-loop-line
invariant-loop-line g l = record {
  same : l.self ≡ l.fn.self;
  told : lines_hold (map (λ c. c.bytes) l.line-iterator) l.self.sought ≡ lines_hold (lines_in (g.T.Text.content l.text) l.fn.section) l.self.sought;
}
