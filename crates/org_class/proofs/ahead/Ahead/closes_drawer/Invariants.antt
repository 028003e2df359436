use Rattle.std.proofs.Common.{◌≡◌, map}
use Rattle.org_class.specs.Drawers.{closes_drawer}
use Rattle.org_class.proofs.ahead.Ahead.closes_drawer.Given as goal

-- the lines that are left decide
abbrev pub invariant-loop-line : goal.invariant-loop-line
invariant-loop-line g l = closes_drawer (map (λ c. c.bytes) l.line-iterator) ≡ closes_drawer l.self
