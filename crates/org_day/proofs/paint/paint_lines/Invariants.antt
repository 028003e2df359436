-- What was painted, and the lines that are left, are all.
use Rattle.std.proofs.Common.{◌≡◌, ◌++◌, drop}
use Rattle.std.specs.List.{flat_map}
use Rattle.org_day.specs.Painted.{painted_line}
use Rattle.org_day.proofs.paint.paint_lines.Given as goal

abbrev pub invariant-loop-line : goal.invariant-loop-line
invariant-loop-line l = l.out.items ++ flat_map (painted_line l.background) (drop l.line-index l.lines) ≡ flat_map (painted_line l.background) l.lines
