use Rattle.std.proofs.Common.{◌∙◌, sym}
use Rattle.org_act.specs.TakingBack.{made}
use Rattle.org_act.proofs.TakingBackLemmas.{goes_if, goes_not}
use Rattle.org_act.proofs.taking_back.goes_back.Goals as goal

pub returns-then-eq : goal.returns-then-eq
returns-then-eq c = record { value = c.stands_at.ensures.value ∙ rw (c.as_bytes.ensures.value, c.as_bytes-then-eq.ensures.value) (sym (goes_if (made c.args.act.now) c.args.text.now (sym c.if-eq.ensures))) }

pub returns-else-eq : goal.returns-else-eq
returns-else-eq c = record { value = c.if-eq.false ∙ sym (goes_not (made c.args.act.now) c.args.text.now (sym c.if-eq.ensures)) }
