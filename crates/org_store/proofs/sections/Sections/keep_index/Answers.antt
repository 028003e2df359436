use Rattle.std.proofs.Common.{◌≡◌, ◌∙◌, ap, subst, sym}
use Rattle.std.specs.List.{AllZip, count_by}
use Rattle.org_store.specs.Sections.{SaysSo, entries_in, is_pending}
use Rattle.org_store.specs.CachedOutline.{Stands}
use Rattle.org_store.proofs.ShownLemmas.{all_shown}
use Rattle.org_store.proofs.sections.Sections.keep_index.Goals as goal

pub invariant_of-self : goal.invariant_of-self
invariant_of-self c =
    let list = c.self.inside.list in
    let same : list ≡ c.args.self.now = c.self.view_is ∙ c.outline.ensures.same in
    let is : c.keep_index.new.self ≡ entries_in list = c.keep_index.ensures.value ∙ c.in_ok-outline.ensures.value ∙ ap entries_in (sym same) in
    let shown = subst (λ es. AllZip SaysSo list es) (sym is) (all_shown list (ap (count_by is_pending) same ∙ c.requires.read)) in
    subst (λ g. Stands g list c.of.result.outline) (sym c.of.ensures.stale) (subst (λ es. AllZip SaysSo list es) (sym c.of.ensures.outline) shown)
