use Rattle.std.proofs.Common.{◌∙◌, sym}
use Rattle.std.specs.Prelude.{bytes_eq}
use Rattle.org_base.proofs.NameLemmas.{first_is_here, first_is_behind}
use Rattle.org_base.proofs.name_set.NameSet.place_among.Goals as goal

pub returns-then-eq : goal.returns-then-eq
returns-then-eq c =
    record { value = sym (first_is_here (bytes_eq c.args.name.now) c.args.self.now c.loop-place.place c.get.result.now c.loop-place.invariant c.get.ensures.value (sym c.eq.ensures ∙ c.if-eq.true)) }

pub loop-place-preserved : goal.loop-place-preserved
loop-place-preserved c =
    first_is_behind (bytes_eq c.args.name.now) c.args.self.now c.loop-place.place c.get.result.now c.loop-place.invariant c.get.ensures.value (sym c.eq.ensures ∙ c.if-eq.false)
