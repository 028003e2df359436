-- The first mark that is false.
use Rattle.std.proofs.Common.{◌∙◌, Some, ap, subst}
use Rattle.org_store.specs.File.{FileView, first_unread, marked}
use Rattle.org_store.specs.Sections.{is_pending}
use Rattle.org_sequence.specs.Parts.{IsFirstPassing}
use Rattle.org_store.proofs.ReadLemmas.{first_place, some_pending}
use Rattle.org_store.proofs.file.File.work.Goals as goal

pub returns-clause-value : goal.returns-clause-value
returns-clause-value g c = rw (← c.self.view_is) (some_pending c.self.inside.sections c.in-Some.place (subst (λ ks. IsFirstPassing is_pending ks 0 (Some c.in-Some.place)) c.list.ensures.value c.in-Some.ensures.value))

pub returns-clause-some : goal.returns-clause-some
returns-clause-some g c =
    let now = c.args.self.now in
    let marks = ap (λ (f : FileView). f.marks) c.self.view_is in
    let place = first_place c.self.inside.sections c.in-Some.place (subst (λ ks. IsFirstPassing is_pending ks 0 (Some c.in-Some.place)) c.list.ensures.value c.in-Some.ensures.value) ∙ ap first_unread marks in
    λ _. c.in_ok-read_anew.ensures.ok ∙ ap (λ p. record now { marks = marked p now.marks }) place
