use Rattle.std.proofs.Common.{subst, sym}
use Rattle.orgls_text.specs.Reached.{IsReached}
use Rattle.orgls_text.proofs.ReachedLemmas.{before_reached}
use Rattle.orgls_text.proofs.positions.PositionReader.position.Goals as goal

pub reached_on-self-inside-requires-clause-cursor : goal.reached_on-self-inside-requires-clause-cursor
reached_on-self-inside-requires-clause-cursor c =
    subst (λ r. IsReached c.self.inside.encoding c.self.inside.text.now r) (sym c.up_to-from.ensures.value)
    (before_reached c.self.inside.encoding c.self.inside.text.now c.self.inside.reached c.min-end.result c.self.invariant)
