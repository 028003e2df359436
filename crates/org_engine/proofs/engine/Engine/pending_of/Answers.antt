use Rattle.std.proofs.Common.{◌≡◌}
use Rattle.org_match.proofs.Refused.{passed_on}
use Rattle.org_engine.proofs.engine.Engine.pending_of.Goals as goal

pub returns-in_err-world-clause-err : goal.returns-in_err-world-clause-err
returns-in_err-world-clause-err g c =
    let fault = c.in_err-world.field-0.0 in
    passed_on c.from_residual.result (λ why. why ≡ fault) _ (λ why is. rw (is, ← c.self.view_is) (c.in_err-world.ensures.err c.self.inside.world.world)) c.from_residual.ensures.1
