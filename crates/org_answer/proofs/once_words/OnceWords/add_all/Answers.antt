use Rattle.std.proofs.Common.{◌∙◌, ap, sym}
use Rattle.org_inherit.specs.Tags.{with_tag}
use Rattle.org_inherit.proofs.ListLemmas.{fold_one_more}
use Rattle.org_answer.proofs.once_words.OnceWords.add_all.Goals as goal

pub loop-place-preserved : goal.loop-place-preserved
loop-place-preserved c =
    let word = c.get.result.now in
    c.in_ok-add.ensures.ok
    ∙ ap (λ words. with_tag words word) c.loop-place.invariant
    ∙ sym (fold_one_more with_tag c.args.self.now c.args.words.now c.loop-place.place word c.get.ensures.value)
