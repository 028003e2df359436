-- One word more is added.
use Rattle.std.proofs.Common.{ℕ, List, drop, ◌+◌, ap, sym, ◌∙◌, []}
use Rattle.std.specs.Borrow.{Bor}
use Rattle.org_settings.specs.Keywords.{add_words}
use Rattle.org_settings.proofs.RefLemmas.{texts, texts_from}
use Rattle.org_settings.proofs.keywords.Keywords.add_words.Goals as goal

pub loop-word-preserved : goal.loop-word-preserved
loop-word-preserved c =
    let i = c.loop-word.word-index in
    let xs = c.args.words.now in
    let none : Bor (List ℕ) = record { ref_ptr = (0, 0); now = [] } in
    let here = texts_from xs i none c.loop-word-test.true in
    ap (λ ks. add_words c.args.is_done c.args.first ks (drop (i + 1) (texts xs))) c.in_ok-add_word.ensures.ok
    ∙ ap (add_words c.args.is_done c.args.first c.loop-word.self) (sym here)
    ∙ c.loop-word.invariant
