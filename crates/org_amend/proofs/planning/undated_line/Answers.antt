use Rattle.std.proofs.Common.{ℕ, List, sym, ◌∙◌, subst}
use Rattle.std.specs.Prelude.{Option}
use Rattle.org_amend.proofs.PlanningLemmas.{undated_is}
use Rattle.org_amend.specs.Planning.{GivesLine}
use Rattle.org_amend.proofs.planning.undated_line.Goals as goal

pub returns : goal.returns
returns c =
    let word = c.args.keyword in
    let line = c.args.line.now in
    let next = c.args.next.now in
    let is = undated_is word line next c.deref.result.now c.deref-2.result.now c.is_left-is_left.result (c.deref.ensures.value ∙ c.in_ok-left.ensures.value)
    (c.deref-2.ensures.value ∙ sym c.deref.ensures.value) c.is_left-is_left.ensures.value in
    record { value = subst (λ (l : Option (List ℕ)). GivesLine c.text_if.result l) is c.text_if.ensures.value }
