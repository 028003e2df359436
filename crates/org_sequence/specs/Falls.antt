-- Each side of a fork is lower than the fork.
use Rattle.std.specs.Prelude.{◌≤◌, max}
use Rattle.std.proofs.Common.{arith}
use Rattle.org_sequence.specs.declared.measured.Measured as measured
use Rattle.org_sequence.specs.declared.tree.Node.{Node}
use Rattle.org_sequence.specs.declared.tree.Node.TheVariants.{Leaf, Fork}
use Rattle.org_sequence.specs.declared.tree.Tree.TheDeep.{deep-Node}
use Rattle.org_sequence.specs.Shape.{items_and_height, IsTree}

-- the height bounds the depth, by which recursions end
pub falls : {T : Type 0} (g : measured.Ghosts T) (n : Node T) → IsTree g.size g.lines g.pending g.flagged n → max (deep-Node T g n) 0 ≤ (items_and_height n).1
falls g (Leaf items sums) h = omega arith
falls g (Fork l r sums height) h = omega (arith, h.height_is)
