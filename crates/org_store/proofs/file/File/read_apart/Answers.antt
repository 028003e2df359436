-- Read by the file's own settings.
use Rattle.std.proofs.Common.{◌∙◌, ap, subst}
use Rattle.org_base.specs.Results.{Gives}
use Rattle.org_store.specs.File.{FileView, read_sections}
use Rattle.org_store.specs.Outline.{file_settings}
use Rattle.org_store.proofs.file.File.read_apart.Goals as goal

pub returns-clause-value : goal.returns-clause-value
returns-clause-value g c =
    let t = g.T.Text.content c.self.inside.text in
    let own = ap (λ s. read_sections s t) (c.as_ref.ensures ∙ c.self.invariant.own) in
    subst (λ ks. Gives c.all_read.result ks) (own ∙ ap (λ (f : FileView). read_sections (file_settings f.text) f.text) c.self.view_is) c.all_read.ensures.value
