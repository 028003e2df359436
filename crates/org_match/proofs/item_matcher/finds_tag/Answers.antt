use Rattle.std.proofs.Common.{ap, sym, ◌∙◌}
use Rattle.std.specs.List.{list_any}
use Rattle.org_match.specs.Patterns.{found}
use Rattle.org_match.proofs.Tags.{any_hit, any_miss}
use Rattle.org_match.proofs.item_matcher.finds_tag.Goals as goal

pub returns-then-is_found-clause-value : goal.returns-then-is_found-clause-value
returns-then-is_found-clause-value g c =
    let inv = c.loop-place.invariant in
    any_hit (found c.loop-place.searcher) _ c.loop-place.place c.tag.result.now inv.told c.tag.ensures.value (sym c.is_found.ensures.value ∙ c.if-is_found.true)
    ∙ ap (λ q. list_any (found q) (g.T.TagList.list c.args.tags.now)) inv.same

pub loop-place-preserved : goal.loop-place-preserved
loop-place-preserved g c =
    let inv = c.loop-place.invariant in
    let miss = any_miss (found c.loop-place.searcher) _ c.loop-place.place c.tag.result.now inv.told c.tag.ensures.value (sym c.is_found.ensures.value ∙ c.if-is_found.false) in
    record { same = c.is_found.ensures.unchanged ∙ inv.same; told = rw c.is_found.ensures.unchanged miss }
