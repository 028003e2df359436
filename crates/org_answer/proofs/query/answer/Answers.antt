use Rattle.std.proofs.Common.{subst, sym}
use Rattle.org_answer.specs.Asked.{AnswersNext, AnswersQuery, AnswersSince}
use Rattle.org_answer.specs.declared.query.Query.{Query}
use Rattle.org_answer.specs.declared.view.Chosen.{Chosen}
use Rattle.org_answer.proofs.query.answer.Goals as goal

pub returns-in-Next : goal.returns-in-Next
returns-in-Next c =
    let next = subst (λ (chosen : Chosen). AnswersNext c.next_answer.result c.args.inherits.now chosen c.in-Next.days c.in-Next.within) c.chosen-chosen.ensures.value c.next_answer.ensures.value in
    record { value = subst (λ (asked : Query). AnswersQuery c.next_answer.result c.args.inherits.now c.args.question.now asked) (sym c.in-Next.is) next }

pub returns-in-Since : goal.returns-in-Since
returns-in-Since c =
    let since = subst (λ (chosen : Chosen). AnswersSince c.since_answer.result c.args.inherits.now chosen c.in-Since.days c.in-Since.window) c.chosen-chosen.ensures.value c.since_answer.ensures.value in
    record { value = subst (λ (asked : Query). AnswersQuery c.since_answer.result c.args.inherits.now c.args.question.now asked) (sym c.in-Since.is) since }
