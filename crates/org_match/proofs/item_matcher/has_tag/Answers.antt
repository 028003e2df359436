use Rattle.std.proofs.Common.{bytes_eq, sym, ◌∙◌}
use Rattle.org_match.proofs.Tags.{any_hit, any_miss}
use Rattle.org_match.proofs.item_matcher.has_tag.Goals as goal

pub returns-then-eq : goal.returns-then-eq
returns-then-eq g c =
    record { value = any_hit (bytes_eq c.args.name.now) _ c.loop-place.place c.tag.result.now c.loop-place.invariant c.tag.ensures.value (sym c.eq.ensures ∙ c.if-eq.true) }

pub loop-place-preserved : goal.loop-place-preserved
loop-place-preserved g c =
    any_miss (bytes_eq c.args.name.now) _ c.loop-place.place c.tag.result.now c.loop-place.invariant c.tag.ensures.value (sym c.eq.ensures ∙ c.if-eq.false)
