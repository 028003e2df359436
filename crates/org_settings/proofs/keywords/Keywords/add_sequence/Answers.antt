-- The words before the place, open, then those from it on, done.
use Rattle.std.proofs.Common.{true, false, length, take, drop, ap, ◌∙◌}
use Rattle.org_settings.specs.Keywords.{add_words}
use Rattle.org_settings.proofs.RefLemmas.{texts, texts_front, texts_rest}
use Rattle.org_settings.proofs.keywords.Keywords.add_sequence.Goals as goal

pub returns : goal.returns
returns c =
    record {
      ok =
          let ks = c.args.self.now in
          let xs = c.args.words.now in
          let n = c.done_from-done.result in
          let first = c.count-first.result in
          c.in_ok-add_words-2.ensures.ok
          ∙ ap (add_words true first c.add_words.new.self) (texts_rest xs n)
          ∙ ap (λ q. add_words true first q (drop n (texts xs))) (c.in_ok-add_words.ensures.ok ∙ ap (add_words false first ks) (texts_front xs n))
          ∙ ap (λ m. add_words true m (add_words false m ks (take n (texts xs))) (drop n (texts xs))) c.count-first.ensures.value
          ∙ ap (λ m. add_words true (length ks) (add_words false (length ks) ks (take m (texts xs))) (drop m (texts xs))) c.done_from-done.ensures.value;
    }
