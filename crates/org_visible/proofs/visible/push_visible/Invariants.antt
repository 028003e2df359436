-- What is written, and what the bytes that are left give, are all.
use Rattle.org_visible.proofs.VisibleLemmas.{WithRest}
use Rattle.org_visible.proofs.visible.push_visible.Given as goal

abbrev pub invariant-loop-byte : goal.invariant-loop-byte
invariant-loop-byte l = WithRest l.escape l.front l.text l.byte-index l.out.items l.fn.out.items
