-- The lines of the section at a place.
use Rattle.std.proofs.Common.{◌≡◌, ◌∙◌, ◌++◌, ap}
use Rattle.org_base.specs.Spans.{bytes_in}
use Rattle.org_class.specs.Classes.{lines_of_setting, section_settings}
use Rattle.org_store.specs.Begun.{section_of}
use Rattle.org_store.specs.Sections.{SectionView}
use Rattle.org_store.proofs.KeptLemmas.{kept_there}
use Rattle.org_store.proofs.LineLemmas.{if_ok}
use Rattle.org_lines.specs.Cuts.{lines}
use Rattle.org_store.proofs.settings.push_lines.Goals as goal

pub returns-clause-ok : goal.returns-clause-ok
returns-clause-ok g c =
    let t = g.T.Text.content c.args.text.now in
    let place = c.args.place in
    let classes = c.classes.ensures.value ∙ ap (λ (k : SectionView). k.classes) (kept_there t c.args.list.now place c.get.result.now c.requires.sections_of_text c.requires.within c.get.ensures.value) in
    let own : lines_of_setting (lines (bytes_in t c.span_at-span.result)) c.classes.result.now ≡ section_settings (section_of t place) = λ i. lines_of_setting (lines (c.span_at-span.ensures.bytes i)) (classes i) in
    if_ok c.push_setting_lines.result c.push_setting_lines.ensures.ok (λ e. e ∙ ap (λ xs. c.args.lines.now ++ xs) own)
