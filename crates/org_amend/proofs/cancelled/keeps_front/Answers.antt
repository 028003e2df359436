use Rattle.std.proofs.Common.{◌∙◌, ◌==◌, Bool, List, ℕ, ap, subst, sym}
use Rattle.std.specs.Str.{IsUtf8}
use Rattle.org_amend.proofs.FrontLemmas.{front_read, front_refused}
use Rattle.org_amend.specs.Cancelled.{front_lines, section_without}
use Rattle.org_base.specs.Results.{Gives}
use Rattle.org_class.specs.Classes.{section_classes}
use Rattle.org_amend.proofs.cancelled.keeps_front.Goals as goal

-- what is left is text
pub returns-in-Ok-clause-value : goal.returns-in-Ok-clause-value
returns-in-Ok-clause-value c =
    let left = section_without c.args.text.now c.args.section c.args.part in
    let is = c.deref.ensures.value ∙ c.in_ok-left.ensures.value in
    let utf8 = subst IsUtf8 is c.in-Ok.ensures.cases.1 in
    subst (λ (b : Bool). Gives c.is_front_of.result b)
    (ap (λ (l : List ℕ). front_lines (section_classes l) == c.args.front) (c.in-Ok.ensures.cases.0 ∙ is) ∙ sym (front_read left c.args.front utf8)) c.is_front_of.ensures.value

-- it isn't
pub returns-clause-value : goal.returns-clause-value
returns-clause-value c =
    let left = section_without c.args.text.now c.args.section c.args.part in
    let is = c.deref.ensures.value ∙ c.in_ok-left.ensures.value in
    sym (front_refused left c.args.front (λ u. c.in-Err.ensures.cases.0 (subst IsUtf8 (sym is) u)))
