use Rattle.std.proofs.Common.{length, get_or, sym, ap, ◌∙◌, arith}
use Rattle.std.proofs.lemmas.List.FromFn.{length-map-range_with_len, get_or-map-range_with_len, map-range_with_len_more}
use Rattle.org_outline.specs.Parents.{up_to_parent}
use Rattle.org_outline.proofs.levels.parent_table.Goals as goal

pub up_to_parent-requires-clause-count : goal.up_to_parent-requires-clause-count
up_to_parent-requires-clause-count c = ap length (c.deref.ensures.value ∙ c.loop-place.invariant) ∙ length-map-range_with_len (up_to_parent c.args.levels.now) 0 c.loop-place.place

pub up_to_parent-requires-clause-before : goal.up_to_parent-requires-clause-before
up_to_parent-requires-clause-before c = λ k h.
    ap (λ v. get_or v k 0) (c.deref.ensures.value ∙ c.loop-place.invariant)
    ∙ get_or-map-range_with_len (up_to_parent c.args.levels.now) 0 c.loop-place.place k k 0 h (omega arith)

pub loop-place-preserved : goal.loop-place-preserved
loop-place-preserved c =
    c.in_ok-push.ensures.items
    ∙ (rw (c.loop-place.invariant, c.up_to_parent.ensures.value) (sym (map-range_with_len_more (up_to_parent c.args.levels.now) 0 c.loop-place.place c.loop-place.place (omega arith))))
