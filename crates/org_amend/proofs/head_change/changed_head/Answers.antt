use Rattle.std.proofs.Common.{◌∙◌, List, ℕ, subst}
use Rattle.std.specs.Prelude.{Result}
use Rattle.org_amend.proofs.HeadChangeLemmas.{short_enough}
use Rattle.org_amend.specs.Heads.{GivesHead}
use Rattle.org_amend.specs.declared.head.Unreadable.{Unreadable}
use Rattle.org_amend.proofs.head_change.changed_head.Goals as goal

pub returns-clause-value : goal.returns-clause-value
returns-clause-value c =
    let drafted = c.deref.ensures.value ∙ c.in_ok-draft.ensures.value in
    subst (λ (head : Result (List ℕ) Unreadable). GivesHead c.finish_draft.result head) (short_enough c.args.settings.now c.args.change.now c.args.line.now c.deref.result.now c.if-line-gt-MAX_BYTES.false drafted) c.finish_draft.ensures.value
