-- The words of one file more.
use Rattle.org_answer.proofs.WordLemmas.{words_told}
use Rattle.org_answer.proofs.words.once_words.Goals as goal

pub loop-file-preserved : goal.loop-file-preserved
loop-file-preserved c =
    words_told c.args.kind c.args.inherits.now c.loop-file.file c.get.result.now c.loop-file.words _ _ c.get.ensures.value c.in_ok-push_file.ensures.ok c.loop-file.invariant
