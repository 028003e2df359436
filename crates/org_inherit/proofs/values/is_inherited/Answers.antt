use Rattle.std.proofs.Common.{◌∙◌, sym}
use Rattle.org_base.specs.Words.{same_word}
use Rattle.org_inherit.proofs.ListLemmas.{any_here, any_behind}
use Rattle.org_inherit.proofs.values.is_inherited.Goals as goal

pub returns-then-same_word : goal.returns-then-same_word
returns-then-same_word c =
    record { value = sym (any_here (same_word c.args.name.now) c.args.names.now c.loop-place.place c.get.result.now c.get.ensures.value (sym c.same_word.ensures.value ∙ c.if-same_word.true)) ∙ c.loop-place.invariant }

pub loop-place-preserved : goal.loop-place-preserved
loop-place-preserved c =
    any_behind (same_word c.args.name.now) c.args.names.now c.loop-place.place c.get.result.now c.get.ensures.value (sym c.same_word.ensures.value ∙ c.if-same_word.false) ∙ c.loop-place.invariant
