-- This word is the last so far, or not.
use Rattle.std.proofs.Common.{◌≡◌, ℕ, List, get_or, drop, ◌+◌, cond, ap, sym, ◌∙◌, [], arith}
use Rattle.std.specs.Borrow.{Bor}
use Rattle.org_settings.specs.Keywords.{is_named}
use Rattle.org_settings.proofs.RefLemmas.{texts, texts_from}
use Rattle.org_settings.proofs.SequenceLemmas.{last_named, last_more}
use Rattle.org_settings.proofs.sequence.named_until.Goals as goal
use Rattle.org_settings.proofs.sequence.named_until.Goals.{then-is_named, else-is_named}

pub loop-i-preserved : goal.loop-i-preserved
loop-i-preserved c =
    let i = c.loop-i.i in
    let until = c.loop-i.until in
    let xs = c.args.words.now in
    let none : Bor (List ℕ) = record { ref_ptr = (0, 0); now = [] } in
    let w = (get_or xs i none).now in
    let rest = drop (i + 1) (texts xs) in
    let here = texts_from xs i none c.loop-i-test.true in
    let step : last_named (cond (is_named w) (i + 1) until) (i + 1) rest ≡ last_named 0 0 (texts xs) =
    sym (last_more until i w rest) ∙ ap (last_named until i) (sym here) ∙ c.loop-i.invariant.last in
    elim c.if-is_named.branch [
      | then-is_named b ↦
          record { within = omega arith; last = ap (λ n. last_named n (i + 1) rest) (b.until-is ∙ sym (ap (λ t. cond t (i + 1) until) (sym c.is_named.ensures.value ∙ b.if-is_named.true))) ∙ step }
      | else-is_named b ↦
          record { within = omega arith; last = ap (λ n. last_named n (i + 1) rest) (b.until-is ∙ sym (ap (λ t. cond t (i + 1) until) (sym c.is_named.ensures.value ∙ b.if-is_named.false))) ∙ step }
    ]
