-- All marks are true.
use Rattle.std.proofs.Common.{◌∙◌, ap, sym}
use Rattle.org_store.specs.File.{FileView, read_sections}
use Rattle.org_store.specs.Outline.{file_settings}
use Rattle.org_store.proofs.ReadLemmas.{kept_all, marks_all}
use Rattle.org_store.proofs.file.File.read_all.Goals as goal

pub invariant_of-self : goal.invariant_of-self
invariant_of-self g c =
    let t = g.T.Text.content c.self.inside.text in
    let seen = c.self.view_is ∙ c.read_apart.ensures.same in
    let is = c.in_ok-sections.ensures.value ∙ ap (λ (f : FileView). read_sections (file_settings f.text) f.text) (sym seen) in
    kept_all t c.in_ok-sections.sections c.self.inside.settings.value c.self.invariant.own is

pub returns-clause-ok : goal.returns-clause-ok
returns-clause-ok g c =
    let t = g.T.Text.content c.self.inside.text in
    let seen = c.self.view_is ∙ c.read_apart.ensures.same in
    let is = c.in_ok-sections.ensures.value ∙ ap (λ (f : FileView). read_sections (file_settings f.text) f.text) (sym seen) in
    let marks = marks_all t c.self.inside.sections c.in_ok-sections.sections c.self.invariant.list_is is in
    rw (← seen) (λ i. record { text = t; serial = c.self.inside.serial; marks = marks i })
