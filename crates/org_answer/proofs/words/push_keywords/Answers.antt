-- One keyword more.
use Rattle.std.proofs.Common.{◌≡◌, ◌∙◌, ap, arith, sym}
use Rattle.std.specs.Prelude.{Some, slice_get}
use Rattle.org_inherit.specs.Tags.{with_tag}
use Rattle.org_inherit.proofs.ListLemmas.{fold_one_more}
use Rattle.org_answer.specs.Words.{keyword_words}
use Rattle.org_answer.proofs.WordLemmas.{keyword_at}
use Rattle.org_answer.proofs.words.push_keywords.Goals as goal

pub loop-place-preserved : goal.loop-place-preserved
loop-place-preserved c =
    let settings = c.args.settings.now in
    let place = c.loop-place.place in
    let word = c.keyword_word.result.now in
    let is : slice_get (keyword_words settings) place ≡ Some word = keyword_at settings.keywords place (omega (arith, c.loop-place-test.true, c.keyword_count-place-end.ensures.value)) ∙ ap Some (sym c.keyword_word.ensures.value) in
    c.in_ok-add.ensures.ok ∙ ap (λ words. with_tag words word) c.loop-place.invariant ∙ sym (fold_one_more with_tag c.args.words.now (keyword_words settings) place word is)
