use Rattle.std.proofs.Common.{◌∙◌, drop, sym, ap}
use Rattle.org_stamp.specs.Pair.{past_spaces}
use Rattle.org_stamp.proofs.SeenLemmas.{is_planned, is_unplanned}
use Rattle.org_stamp.proofs.planning.is_planning.Goals as goal

pub returns : goal.returns
returns c = record {
  value = c.begins_single.ensures.value
      ∙ is_planned c.args.line.now c.past_spaces.result.1.now c.past_spaces-2.result.1.now c.in-Some.field-0-0 c.in-Some.len
      (c.past_spaces.ensures.rest ∙ ap (λ n. drop n c.args.line.now) c.past_spaces.ensures.count) (sym c.planning_word.ensures.value ∙ c.in-Some.is)
      (c.past_spaces-2.ensures.rest ∙ ap (λ n. drop n c.split_at.result.1.now) c.past_spaces-2.ensures.count ∙ ap past_spaces c.split_at.ensures.back);
}

pub returns-in_default : goal.returns-in_default
returns-in_default c = record {
  value = is_unplanned c.args.line.now c.past_spaces.result.1.now (c.past_spaces.ensures.rest ∙ ap (λ n. drop n c.args.line.now) c.past_spaces.ensures.count)
      (sym c.planning_word.ensures.value ∙ c.in_default.is);
}
