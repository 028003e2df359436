use Rattle.std.proofs.Common.{bytes_eq, sym, ◌∙◌}
use Rattle.org_match.proofs.Tags.{any_hit, any_miss}
use Rattle.org_agenda.proofs.filter.is_among.Goals as goal

pub returns-then-eq : goal.returns-then-eq
returns-then-eq c =
    any_hit (bytes_eq c.args.keyword.now) _ c.loop-place.place c.get.result.now c.loop-place.invariant c.get.ensures.value (sym c.eq.ensures ∙ c.if-eq.true)

pub loop-place-preserved : goal.loop-place-preserved
loop-place-preserved c =
    any_miss (bytes_eq c.args.keyword.now) _ c.loop-place.place c.get.result.now c.loop-place.invariant c.get.ensures.value (sym c.eq.ensures ∙ c.if-eq.false)
