use Rattle.std.proofs.Common.{◌≡◌, ◌∙◌, ◌<◌, get_or, length, ap}
use Rattle.std.specs.Prelude.{slice_set}
use Rattle.org_stamp_index.specs.Index.{moved}
use Rattle.org_stamp_index.proofs.ReplaceLemmas.{next_mapped, next_there}
use Rattle.org_stamp_index.proofs.heading_ids.renumber_headings.Goals as goal

pub loop-heading-preserved : goal.loop-heading-preserved
loop-heading-preserved c =
    let xs = c.args.heading_of.now in
    let i = c.loop-heading.heading-index in
    let f = moved c.args.end c.args.behind in
    let lt : i < length xs = c.loop-heading-test.true in
    let is = c.loop-heading.invariant in
    let value : c.renumbered_heading.result ≡ f (get_or xs i 0) = c.renumbered_heading.ensures.value ∙ ap f (ap (λ ys. get_or ys i 0) is ∙ next_there f xs i 0 lt) in
    (λ k. slice_set (is k) i (value k)) ∙ next_mapped f xs i 0 lt
