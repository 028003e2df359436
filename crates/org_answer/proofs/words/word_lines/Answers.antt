use Rattle.org_answer.proofs.WordLemmas.{lines_more}
use Rattle.org_answer.proofs.words.word_lines.Goals as goal

pub loop-place-preserved : goal.loop-place-preserved
loop-place-preserved c =
    lines_more _ _ c.args.words.now c.loop-place.place c.get.result.now _ _ _ c.get.ensures.value c.in_ok-push_line.ensures.value c.loop-place.invariant
