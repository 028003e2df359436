use Rattle.std.proofs.Common.{◌≡◌, ◌∙◌, [], Some}
use Rattle.std.specs.Str.Iter.{chars_rest}
use Rattle.std.proofs.lemmas.Str.{IsUtf8-past_char}
use Rattle.std.proofs.lemmas.List.{nil_from_length}
use Rattle.std.proofs.lemmas.Result.{IfOk-weaker}
use Rattle.org_expression.proofs.Drafting.{told_past, told_none, told_end}
use Rattle.org_expression.proofs.read.parse.Goals as goal

pub loop-c-preserved : goal.loop-c-preserved
loop-c-preserved c =
    let inv = c.loop-c.invariant in
    let parts = c.in-Some.ensures.steps.0 in
    record {
      utf8 = IsUtf8-past_char _ _ c.in-Some.c inv.utf8 parts;
      told = told_past c.loop-c.state (Some c.in-Some-step.next) c.loop-c.draft c.absorb.new.self _ _ c.in-Some.c _ inv.utf8 parts c.in-Some-step.ensures.value c.in_ok-absorb.ensures.value inv.told;
    }

pub returns-in-None-step : goal.returns-in-None-step
returns-in-None-step c =
    let inv = c.loop-c.invariant in
    record { value = told_none c.loop-c.state c.loop-c.draft c.absorb.new.self _ _ c.in-Some.c _ inv.utf8 c.in-Some.ensures.steps.0 c.in-None-step.ensures.value c.in_ok-absorb.ensures.value inv.told }

pub returns : goal.returns
returns c =
    let inv = c.loop-c.invariant in
    let none : chars_rest c.loop-c.c-iterator ≡ [] = nil_from_length _ c.in-None.ensures.steps.0.0 in
    record { value = IfOk-weaker c.finish.result _ _ (λ x e. e ∙ told_end c.loop-c.state c.loop-c.draft _ _ none inv.told) c.finish.ensures.value }
