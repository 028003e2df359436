use Rattle.std.proofs.Common.{◌∙◌, sym}
use Rattle.org_overview.proofs.TaskLemmas.{word_found, word_missed}
use Rattle.org_overview.proofs.tasks.has_word.Goals as goal

pub returns-then-eq : goal.returns-then-eq
returns-then-eq c = record {
  value = word_found c.args.names.now c.args.word.now c.loop-place.place c.get.result.now c.loop-place.invariant c.get.ensures.value (sym c.eq.ensures ∙ c.if-eq.true);
}

pub loop-place-preserved : goal.loop-place-preserved
loop-place-preserved c =
    word_missed c.args.names.now c.args.word.now c.loop-place.place c.get.result.now c.loop-place.invariant c.get.ensures.value (sym c.eq.ensures ∙ c.if-eq.false)
