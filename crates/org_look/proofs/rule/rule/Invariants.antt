use Rattle.std.proofs.Common.{◌≡◌, ◌+◌, ◌*◌, string_bytes}
use Rattle.org_look.specs.Grids.{gutter}
use Rattle.org_look.specs.Widths.{columns_of}
use Rattle.org_look.proofs.rule.rule.Given as goal

abbrev pub invariant-loop-day : goal.invariant-loop-day
invariant-loop-day l = columns_of (string_bytes l.text) ≡ gutter l.grid.cell + 1 + l._day * (l.grid.cell + 1)
