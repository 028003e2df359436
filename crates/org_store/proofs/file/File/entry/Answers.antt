-- What was read is what the section says.
use Rattle.std.proofs.Common.{◌∙◌, ap, arith, get_or, length}
use Rattle.std.proofs.lemmas.List.{length-map}
use Rattle.org_store.specs.File.{FileView}
use Rattle.org_store.specs.Sections.{is_read}
use Rattle.org_store.proofs.KeptLemmas.{says_there}
use Rattle.org_store.proofs.file.File.entry.Goals as goal

pub returns-clause-value : goal.returns-clause-value
returns-clause-value g c =
    let list = c.self.inside.sections in
    let same = ap (λ (f : FileView). length f.marks) c.self.view_is in
    rw (← c.self.view_is) (says_there (g.T.Text.content c.self.inside.text) list c.self.inside.settings.value c.args.place c.get.result.now c.entry.result c.self.invariant (omega (arith, c.requires, same, length-map list is_read)) (c.get.ensures.value ∙ ap (λ ks. get_or ks c.args.place c.get.result.now) c.list.ensures.value) c.entry.ensures.value)
