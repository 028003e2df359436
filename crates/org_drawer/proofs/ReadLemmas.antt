-- Lines are read exactly where they are such lines.
use Rattle.std.proofs.Common.{◌≡◌, ℕ, Bool, true, false, cond, List, Some, None, Option, refl}
use Rattle.std.specs.Option.{is_some, option_map}
use Rattle.org_stamp.specs.Pair.{clock_stamp, is_clock, is_planning}
use Rattle.org_stamp.proofs.PairWords.{is_some_stamp}
use Rattle.org_stamp.specs.declared.stamp.Stamp.{Stamp}
use Rattle.org_drawer.specs.declared.clock.ClockLine.{ClockLine}
use Rattle.org_drawer.specs.Clock.{clock_of}
use Rattle.org_drawer.specs.Node.{given_of, is_node}
use Rattle.org_drawer.specs.Planning.{planning_of}

by_test : {X : Type 0} (t : Bool) (x : X) → is_some (cond t (Some x) None) ≡ t
by_test true x = refl
by_test false x = refl

by_stamp : (f : Stamp → ClockLine) (o : Option Stamp) → is_some (option_map f o) ≡ is_some_stamp o
by_stamp f None = refl
by_stamp f (Some s) = refl

-- a planning, a clock or a node line is read
pub lines_are_read : (line : List ℕ) →
    (is_some (planning_of line) ≡ is_planning line) × (is_some (clock_of line) ≡ is_clock line) × (is_some (given_of line) ≡ is_node line)
lines_are_read line = (by_test (is_planning line) _, by_stamp _ (clock_stamp line), by_test (is_node line) _)
