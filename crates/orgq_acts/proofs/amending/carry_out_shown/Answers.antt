use Rattle.std.proofs.Common.{List, ℕ, subst}
use Rattle.org_act.specs.Amending.{IsAmended}
use Rattle.orgq_acts.proofs.amending.carry_out_shown.Goals as goal

-- the text that was lent is the heading's
pub returns-in-Ok-clause-ok : goal.returns-in-Ok-clause-ok
returns-in-Ok-clause-ok g c =
    let before = g.S.Store.events c.args.store.now in
    let after = g.S.Store.events c.amend.new.store in
    let OfText : List ℕ → Type 0 = λ old. IsAmended (g.A.Act.amended c.args.act.now old) old before after c.in-Ok.field-0 in
    λ zero. record { amended = c.in-Ok.field-0; is = subst OfText c.as_str.ensures.value c.in-Ok.ensures.ok }
