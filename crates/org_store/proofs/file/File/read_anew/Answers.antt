-- One section more is read.
use Rattle.std.proofs.Common.{◌∙◌, ◌<◌, ap, sym, subst, arith, length, map}
use Rattle.std.proofs.lemmas.List.{length-map}
use Rattle.org_store.specs.Begun.{section_of}
use Rattle.org_store.specs.File.{FileView, IsKept, with_read}
use Rattle.org_store.specs.Sections.{is_read}
use Rattle.org_store.proofs.ReadLemmas.{kept_read, marks_one}
use Rattle.org_store.proofs.file.File.read_anew.Goals as goal

pub invariant_of-self-2 : goal.invariant_of-self-2
invariant_of-self-2 g c =
    let t = g.T.Text.content c.self.inside.text in
    let list = c.self.inside.sections in
    let place = c.args.place in
    let within : place < length list = omega (arith, c.requires, ap (λ (f : FileView). length f.marks) c.self.view_is, length-map list is_read) in
    let is = c.in_ok-read_in.ensures.ok ∙ ap (λ s. with_read s t place list) c.as_ref.ensures in
    subst (λ xs. IsKept t xs c.self.inside.settings.value) (sym is) (kept_read t list place c.self.inside.settings.value c.self.invariant within)

pub returns-clause-ok : goal.returns-clause-ok
returns-clause-ok g c =
    let t = g.T.Text.content c.self.inside.text in
    let list = c.self.inside.sections in
    let place = c.args.place in
    let settings = c.as_ref.result.now in
    let marks = ap (map is_read) c.in_ok-read_in.ensures.ok ∙ marks_one list place settings (section_of t place) in
    rw (← c.self.view_is) (λ i. record { text = t; serial = c.self.inside.serial; marks = marks i })
