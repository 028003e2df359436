use Rattle.org_look.specs.Grids.{AreWide, line_width}
use Rattle.org_look.proofs.week.Week.push_lines.Given as goal

abbrev pub invariant-loop-place : goal.invariant-loop-place
invariant-loop-place l = AreWide (line_width l.grid.cell) l.fn.lines.items → AreWide (line_width l.grid.cell) l.lines.items
