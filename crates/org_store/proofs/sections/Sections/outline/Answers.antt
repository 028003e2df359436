use Rattle.std.proofs.Common.{◌∙◌, ap, subst, sym}
use Rattle.std.specs.List.{AllZip, count_by}
use Rattle.org_store.specs.Sections.{SaysSo, is_pending}
use Rattle.org_store.specs.CachedOutline.{Stands}
use Rattle.org_store.proofs.ShownLemmas.{all_shown}
use Rattle.org_store.proofs.sections.Sections.outline.Goals as goal

pub invariant_of-self-2 : goal.invariant_of-self-2
invariant_of-self-2 c =
    let list = c.self.inside.list in
    let shown = subst (λ es. AllZip SaysSo list es) (sym c.in_ok-outline.ensures.value) (all_shown list (ap (count_by is_pending) c.self.view_is ∙ c.requires.read)) in
    subst (λ g. Stands g list c.of.result.outline) (sym c.of.ensures.stale) (subst (λ es. AllZip SaysSo list es) (sym c.of.ensures.outline) shown)
