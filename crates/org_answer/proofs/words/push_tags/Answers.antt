-- The tags of one heading more.
use Rattle.std.proofs.Common.{◌≡◌, ◌∙◌, ap, arith, length}
use Rattle.org_answer.proofs.WordLemmas.{tags_told}
use Rattle.org_answer.proofs.words.push_tags.Goals as goal

pub loop-place-preserved : goal.loop-place-preserved
loop-place-preserved c =
    let count : c.count-place-end.result ≡ length c.args.inherit.now.entries = c.count-place-end.ensures.value ∙ ap length c.outline.ensures.value in
    tags_told c.args.inherit.now c.loop-place.place c.loop-place.words _ _ (omega (arith, c.loop-place-test.true, count)) c.in_ok-push_heading.ensures.ok c.loop-place.invariant
