-- None of the sections was read.
use Rattle.std.proofs.Common.{◌∙◌, ap, sym, subst, map}
use Rattle.org_class.specs.Sections.{sections}
use Rattle.org_store.specs.File.{IsKept, bare}
use Rattle.org_store.specs.Sections.{is_read}
use Rattle.org_store.proofs.ChangeLemmas.{kept_fresh}
use Rattle.org_store.proofs.KeptLemmas.{bare_fresh, marks_fresh}
use Rattle.org_store.proofs.file.File.new.Goals as goal

pub shared_settings-requires : goal.shared_settings-requires
shared_settings-requires g c = record { sections_of_text = ap (map bare) c.in_ok-list.ensures.value ∙ bare_fresh (sections (g.T.Text.content c.args.text)) }

pub invariant_of-result : goal.invariant_of-result
invariant_of-result g c =
    let t = g.T.Text.content c.args.text in
    subst (λ xs. IsKept t xs c.in_ok-settings.settings.value) (sym (c.new.ensures.value ∙ c.in_ok-list.ensures.value)) (kept_fresh t c.in_ok-settings.settings.value c.in_ok-settings.ensures.value)

pub returns-clause-value : goal.returns-clause-value
returns-clause-value g c =
    let t = g.T.Text.content c.args.text in
    let marks = ap (map is_read) (c.new.ensures.value ∙ c.in_ok-list.ensures.value) ∙ marks_fresh (sections t) in
    λ i. record { text = t; serial = c.args.serial; marks = marks i }
