use Rattle.std.proofs.Common.{◌≡◌, map, take}
use Rattle.orgls_text.specs.Positions.{position_of}
use Rattle.orgls_text.proofs.positions.positions_of.Given as goal

abbrev pub invariant-loop-offset : goal.invariant-loop-offset
invariant-loop-offset l = record {
  same : l.reader ≡ record { text = l.fn.text; encoding = l.fn.encoding };
  told : l.out.items ≡ map (position_of l.fn.encoding l.fn.text) (take l.offset-index l.offsets);
}
