-- What is kept at a place is of the section there.
use Rattle.std.proofs.Common.{◌∙◌, ap, sym}
use Rattle.org_base.specs.Spans.{bytes_in}
use Rattle.org_class.specs.Classes.{section_classes}
use Rattle.org_store.specs.Sections.{SectionView}
use Rattle.org_store.proofs.KeptLemmas.{given_read, kept_there}
use Rattle.org_store.proofs.read.read_at.Goals as goal

pub read_one-requires-clause-belongs : goal.read_one-requires-clause-belongs
read_one-requires-clause-belongs g c =
    let t = g.T.Text.content c.args.context.now.text.now in
    ap (λ (k : SectionView). k.classes) (kept_there t c.args.list.now c.args.place c.get.result.now c.requires.sections_of_text c.requires.within c.get.ensures.value)
    ∙ ap section_classes (sym c.span_at-span.ensures.bytes)

pub returns-clause-value : goal.returns-clause-value
returns-clause-value g c =
    let t = g.T.Text.content c.args.context.now.text.now in
    given_read t c.args.list.now c.args.place c.get.result.now c.args.context.now.settings.now (bytes_in t c.span_at-span.result) c.read_one.result c.requires.sections_of_text c.requires.within c.get.ensures.value c.span_at-span.ensures.bytes c.read_one.ensures.value
