use Rattle.std.proofs.Common.{ℕ, List, sym, ap, ◌∙◌}
use Rattle.org_amend.proofs.PlanningLemmas.{dated_is}
use Rattle.org_amend.specs.Planning.{dated_draft}
use Rattle.org_amend.proofs.planning.dated_line.Goals as goal

pub returns-clause-value : goal.returns-clause-value
returns-clause-value c =
    let word = c.args.keyword in
    let line = c.args.line.now in
    let end = c.args.end.now in
    let stamp = c.as_bytes.ensures.value ∙ c.in_ok-stamp.ensures.value in
    let draft = c.in_ok-draft.ensures.value ∙ ap (λ (s : List ℕ). dated_draft word s line end) (c.as_str.ensures.value ∙ c.in_ok-stamp.ensures.value) in
    c.in_ok-text_if.ensures.value
    ∙ dated_is word c.args.date line end c.as_bytes.result.now c.deref.result.now c.deref-2.result.now c.is_said-is_said.result stamp (c.deref.ensures.value ∙ draft)
    (c.deref-2.ensures.value ∙ sym c.deref.ensures.value) c.is_said-is_said.ensures.value
