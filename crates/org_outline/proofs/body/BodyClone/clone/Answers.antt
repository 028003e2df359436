use Rattle.std.proofs.Common.{ap, sym, ◌∙◌}
use Rattle.std.specs.List.{each_same}
use Rattle.org_outline.specs.Levels.{levels}
use Rattle.org_outline.specs.Parents.{all_up_to_parent}
use Rattle.org_outline.proofs.ByPlace.{clones_show}
use Rattle.org_outline.proofs.body.BodyClone.clone.Goals as goal

pub invariant_of-result : goal.invariant_of-result
invariant_of-result c =
    let shown = clones_show (λ e. e.value) c.self.inside.list.items c.in_ok-list.list.items c.in_ok-list.ensures.cases.0 in
    each_same c.self.inside.parents.items c.in_ok-parents.parents.items c.in_ok-parents.ensures.cases.0 ∙ (c.self.invariant ∙ sym (ap (λ es. all_up_to_parent (levels es)) shown))

pub returns : goal.returns
returns c = record { cases = clones_show (λ e. e.value) c.self.inside.list.items c.in_ok-list.list.items c.in_ok-list.ensures.cases.0 ∙ c.self.view_is }
