use Rattle.std.proofs.Common.{◌∙◌, [], ap, sym, arith}
use Rattle.std.proofs.lemmas.Option.{get_or_from_slice_get}
use Rattle.org_settings.specs.Keywords.{keyword_word}
use Rattle.org_settings.proofs.KeywordLemmas.{word_shown, no_word}
use Rattle.org_settings.proofs.keywords.Keywords.word.Goals as goal

pub returns-then-place-count : goal.returns-then-place-count
returns-then-place-count c =
    let ws = c.self.inside.words in
    let i = c.args.place in
    record {
      value = sym (get_or_from_slice_get ws i c.get.result.now [] c.get.ensures.value)
          ∙ word_shown ws c.self.inside.kinds.items i c.self.invariant
          ∙ ap (λ ks. keyword_word ks i) c.self.view_is;
    }

pub returns-else-place-count : goal.returns-else-place-count
returns-else-place-count c =
    let ws = c.self.inside.words in
    let i = c.args.place in
    record {
      value = no_word ws i (omega (arith, c.if-place-count.false, c.count.ensures.value))
          ∙ word_shown ws c.self.inside.kinds.items i c.self.invariant
          ∙ ap (λ ks. keyword_word ks i) c.self.view_is;
    }
