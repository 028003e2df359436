use Rattle.std.proofs.Common.{◌∙◌, sym}
use Rattle.std.specs.Prelude.{bytes_eq}
use Rattle.org_inherit.proofs.ListLemmas.{any_here, any_behind}
use Rattle.org_inherit.proofs.first_tags.contains.Goals as goal

pub returns-then-eq : goal.returns-then-eq
returns-then-eq c =
    record { value = sym (any_here (bytes_eq c.args.tag.now) c.args.tags.now c.loop-place.place c.get.result.now c.get.ensures.value (sym c.eq.ensures ∙ c.if-eq.true)) ∙ c.loop-place.invariant }

pub loop-place-preserved : goal.loop-place-preserved
loop-place-preserved c =
    any_behind (bytes_eq c.args.tag.now) c.args.tags.now c.loop-place.place c.get.result.now c.get.ensures.value (sym c.eq.ensures ∙ c.if-eq.false) ∙ c.loop-place.invariant
