-- All marks are true, and the outline has the file's entries.
use Rattle.std.proofs.Common.{◌∙◌, ap, sym}
use Rattle.org_store.specs.File.{FileView, read_sections}
use Rattle.org_store.specs.Outline.{file_settings, outline_of}
use Rattle.std.specs.List.{count_by}
use Rattle.org_class.specs.Sections.{sections}
use Rattle.org_store.specs.Sections.{is_pending}
use Rattle.org_store.proofs.OutlineLemmas.{entries_are, none_pending}
use Rattle.org_store.proofs.ReadLemmas.{kept_all, marks_all}
use Rattle.org_store.proofs.file.File.keep.Goals as goal

pub outline-requires : goal.outline-requires
outline-requires g c = record { read = ap (count_by is_pending) c.requires.read ∙ none_pending (file_settings c.args.self.now.text) (sections c.args.self.now.text) }

pub invariant_of-self : goal.invariant_of-self
invariant_of-self g c =
    let t = g.T.Text.content c.self.inside.text in
    let own = c.self.invariant.own in
    let is = c.requires.read ∙ ap (λ (f : FileView). read_sections (file_settings f.text) f.text) (sym c.self.view_is) in
    kept_all t c.outline.new.self c.self.inside.settings.value own (c.outline.ensures.same ∙ is)

pub returns-clause-value : goal.returns-clause-value
returns-clause-value g c =
    let t = g.T.Text.content c.self.inside.text in
    let own = c.self.invariant.own in
    let is = c.requires.read ∙ ap (λ (f : FileView). read_sections (file_settings f.text) f.text) (sym c.self.view_is) in
    let entries = c.in_ok-outline.ensures.value ∙ entries_are t c.args.sections is in
    c.in_ok-file.ensures.value ∙ ((λ i. record { entries = entries i; settings = own i }) ∙ ap (λ (f : FileView). outline_of f.text) c.self.view_is)

pub returns-clause-ok : goal.returns-clause-ok
returns-clause-ok g c =
    let t = g.T.Text.content c.self.inside.text in
    let is = c.requires.read ∙ ap (λ (f : FileView). read_sections (file_settings f.text) f.text) (sym c.self.view_is) in
    let marks = marks_all t c.self.inside.sections c.outline.new.self c.self.invariant.list_is (c.outline.ensures.same ∙ is) in
    rw (← c.self.view_is) (λ i. record { text = t; serial = c.self.inside.serial; marks = marks i })
