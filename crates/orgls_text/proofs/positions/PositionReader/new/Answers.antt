use Rattle.std.proofs.Common.{subst, sym}
use Rattle.orgls_text.specs.Reached.{IsReached}
use Rattle.orgls_text.proofs.ReachedLemmas.{front_reached}
use Rattle.orgls_text.proofs.positions.PositionReader.new.Goals as goal

pub invariant_of-result : goal.invariant_of-result
invariant_of-result c = subst (λ r. IsReached c.args.encoding c.args.text.now r) (sym c.front.ensures.value) (front_reached c.args.encoding c.args.text.now)
