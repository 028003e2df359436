use Rattle.std.proofs.Common.{◌≡◌, map, take}
use Rattle.orgls_text.specs.Positions.{range_of}
use Rattle.orgls_text.proofs.positions.ranges_of.Given as goal

abbrev pub invariant-loop-span : goal.invariant-loop-span
invariant-loop-span l = l.out.items ≡ map (range_of l.fn.encoding l.fn.text) (take l.span-index l.spans)
