use Rattle.std.proofs.Common.{◌≡◌, ◌∙◌, ap, subst, sym, true, true≢false}
use Rattle.std.specs.Prelude.{Err, Ok, is_some}
use Rattle.org_store.specs.Change.{edited, edited_text}
use Rattle.org_store.proofs.EditLemmas.{replaced_is}
use Rattle.org_engine.specs.Calls.{RefusesEdit}
use Rattle.org_engine.specs.Files.{files_of}
use Rattle.org_engine.specs.Step.{file_named}
use Rattle.org_engine.proofs.FilesLemmas.{none-file_named, text_found}
use Rattle.org_engine.proofs.PassedLemmas.{passed}
use Rattle.org_engine.proofs.world.World.try_edit.Goals as goal

pub unreachable-requires : goal.unreachable-requires
unreachable-requires g c =
    let entries = c.self.inside.files.entries in
    let there : is_some (file_named c.args.name.now (files_of entries)) ≡ true = rw (← c.self.view_is) at c.requires.there in
    true≢false (sym there ∙ ap is_some (none-file_named c.args.name.now entries (sym c.in-None.ensures.value)))

pub returns-in_err-_edited-in-Some-clause-refused : goal.returns-in_err-_edited-in-Some-clause-refused
returns-in_err-_edited-in-Some-clause-refused g c =
    let text = text_found c.args.name.now c.self.inside.files.entries _ (sym c.in-Some.ensures.value) in
    passed (RefusesEdit c.args.name.now c.args.change c.args.self.now) c.from_residual.result c.in_err-_edited-in-Some.field-0.0 c.from_residual.ensures.1
    (λ other. rw (← c.self.view_is) (λ file found. subst (λ t. edited_text t c.args.change ≡ Err c.in_err-_edited-in-Some.field-0.0) (text file found) (c.in_err-_edited-in-Some.ensures.refused other)))

pub returns-clause-ok : goal.returns-clause-ok
returns-clause-ok g c =
    let text = text_found c.args.name.now c.self.inside.files.entries _ (sym c.in-Some.ensures.value) in
    let is = c.in_ok-_edited-in-Some.ensures.value in
    rw (← c.self.view_is) (λ file found. subst (λ t. edited_text t c.args.change ≡ Ok (edited t c.args.change)) (text file found) (is ∙ ap Ok (replaced_is c.in-Some.file.now.text c.args.change.ins.now c.args.change.at c.args.change.del _ is).1))
