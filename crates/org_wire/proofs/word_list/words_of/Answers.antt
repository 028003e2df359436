-- At a space the open word is put after the others; another byte belongs to it.
use Rattle.std.proofs.Common.{[], ◌∷◌, ◌++◌, ◌+◌, ◌-◌, drop, take, ap, ◌∙◌, arith}
use Rattle.std.proofs.lemmas.List.{append_assoc}
use Rattle.org_wire.specs.Stream.{words_from}
use Rattle.org_wire.proofs.NameLemmas.{begun, word_grows, word_ends}
use Rattle.org_wire.proofs.word_list.words_of.Goals as goal
use Rattle.org_wire.proofs.word_list.words_of.Goals.{then-byte-gap+in_ok-push, else-byte-gap}

pub loop-i-preserved : goal.loop-i-preserved
loop-i-preserved c =
    let t = c.args.text.now in
    let gap = c.args.gap in
    let i = c.loop-i.i in
    let start = c.loop-i.start in
    let so_far = c.loop-i.invariant.all in
    elim c.if-byte-gap.branch [
      | then-byte-gap+in_ok-push w ↦ record {
        order = omega arith;
        all =
            ap (λ n. c.if-byte-gap.words ++ words_from gap (take (i + 1 - n) (drop n t)) (drop (i + 1) t)) w.start-is
            ∙ ap (λ ws. ws ++ words_from gap (begun t (i + 1) (i + 1)) (drop (i + 1) t)) (w.words-is ∙ w.in_ok-push.ensures.ok)
            ∙ append_assoc c.loop-i.words (begun t start i ∷ []) (words_from gap (begun t (i + 1) (i + 1)) (drop (i + 1) t))
            ∙ ap (λ ws. c.loop-i.words ++ ws) (word_ends gap t start i c.loop-i-test.true w.if-byte-gap.true)
            ∙ so_far;
      }
      | else-byte-gap w ↦ record {
        order = omega arith;
        all =
            ap (λ n. c.if-byte-gap.words ++ words_from gap (take (i + 1 - n) (drop n t)) (drop (i + 1) t)) w.start-is
            ∙ ap (λ ws. ws ++ words_from gap (begun t start (i + 1)) (drop (i + 1) t)) w.words-is
            ∙ ap (λ ws. c.loop-i.words ++ ws) (word_grows gap t start i c.loop-i.invariant.order c.loop-i-test.true w.if-byte-gap.false)
            ∙ so_far;
      }
    ]
