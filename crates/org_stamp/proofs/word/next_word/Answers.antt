use Rattle.std.proofs.Common.{arith}
use Rattle.org_stamp.proofs.WordLemmas.{no_word, word_next, word_some}
use Rattle.org_stamp.proofs.word.next_word.Goals as goal

pub returns-then-is_empty-clause-word : goal.returns-then-is_empty-clause-word
returns-then-is_empty-clause-word c =
    no_word c.args.bytes.now c.leading_spaces-gap.result c.leading_spaces-gap.ensures.value (grind arith)

pub returns-clause-word : goal.returns-clause-word
returns-clause-word c =
    rw (c.split_at-2.ensures.front, c.split_at-2.ensures.back, c.split_at.ensures.back)
    (word_next c.args.bytes.now c.leading_spaces-gap.result c.word_len.result c.leading_spaces-gap.ensures.value (grind arith) (grind arith))

pub returns-clause-shorter : goal.returns-clause-shorter
returns-clause-shorter c =
    let some = word_some c.args.bytes.now c.leading_spaces-gap.result c.word_len.result c.leading_spaces-gap.ensures.value (grind arith) (grind arith) in
    grind arith
