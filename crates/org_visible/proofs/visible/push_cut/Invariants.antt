-- What is written, and what the bytes that are left give, are all.
use Rattle.org_visible.proofs.VisibleLemmas.{CutWithRest}
use Rattle.org_visible.proofs.visible.push_cut.Given as goal

abbrev pub invariant-loop-byte : goal.invariant-loop-byte
invariant-loop-byte l = CutWithRest l.escape l.bytes l.byte-index l.out.items l.fn.out.items
