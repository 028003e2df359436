-- The first bar is here, or after this word.
use Rattle.std.proofs.Common.{get_or, drop, ◌+◌, ap, sym, ◌∙◌, []}
use Rattle.std.specs.Borrow.{Bor}
use Rattle.org_settings.specs.Keywords.{bar_place}
use Rattle.org_settings.proofs.RefLemmas.{texts, texts_from}
use Rattle.org_settings.proofs.SequenceLemmas.{bar_here, bar_later}
use Rattle.org_settings.proofs.sequence.bar_place.Goals as goal

pub returns-then-is_bar-clause-value : goal.returns-then-is_bar-clause-value
returns-then-is_bar-clause-value c =
    let i = c.loop-i.i in
    let none : Bor _ = record { ref_ptr = (0, 0); now = [] } in
    let here = texts_from c.args.words.now i none c.loop-i-test.true in
    sym (bar_here i (get_or c.args.words.now i none).now (drop (i + 1) (texts c.args.words.now)) (sym c.is_bar.ensures.value ∙ c.if-is_bar.true))
    ∙ (ap (λ ls. i + bar_place ls) (sym here) ∙ c.loop-i.invariant)

pub loop-i-preserved : goal.loop-i-preserved
loop-i-preserved c =
    let i = c.loop-i.i in
    let none : Bor _ = record { ref_ptr = (0, 0); now = [] } in
    let here = texts_from c.args.words.now i none c.loop-i-test.true in
    sym (bar_later i (get_or c.args.words.now i none).now (drop (i + 1) (texts c.args.words.now)) (sym c.is_bar.ensures.value ∙ c.if-is_bar.false))
    ∙ (ap (λ ls. i + bar_place ls) (sym here) ∙ c.loop-i.invariant)
