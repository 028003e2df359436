-- What the session saw is surely answered; after it no such fault is owed.
use Rattle.std.proofs.Common.{◌≡◌, ◌∙◌, refl, true}
use Rattle.std.specs.Prelude.{Ok}
use Rattle.std.specs.Str.{is_utf8}
use Rattle.std.proofs.lemmas.Result.{IfOk-weaker}
use Rattle.std.proofs.lemmas.Str.{is_utf8-from_IsUtf8}
use Rattle.org_store.specs.declared.change.Change.{Change}
use Rattle.org_engine.specs.Calls.{edited_named}
use Rattle.org_engine.specs.Step.{Answers, EditFile, Refused, Serial, changes, put, text_seen}
use Rattle.org_engine.proofs.ChangeLemmas.{edit_answers, edit_bad}
use Rattle.org_engine.proofs.PassedLemmas.{refuses_so}
use Rattle.org_engine.proofs.StepLemmas.{not_utf8}
use Rattle.org_engine.proofs.SureLemmas.{sure_fine, sure_passed}
use Rattle.org_engine.proofs.engine.Engine.edit.Goals as goal

pub returns-in_err-text_seen-clause-definite : goal.returns-in_err-text_seen-clause-definite
returns-in_err-text_seen-clause-definite g c = sure_passed c.from_residual.result _ c.in_err-text_seen.field-0.0 c.from_residual.ensures.1 (rw (← c.self.view_is) c.in_err-text_seen.ensures.err)

pub returns-clause-definite : goal.returns-clause-definite
returns-clause-definite g c =
    let h : text_seen c.args.session c.args.name.now c.args.serial c.self.inside.world.world.files ≡ Ok (g.T.Text.content c.in_ok-text_seen.field-0.now) = c.in_ok-text_seen.ensures.ok in
    rw (← c.self.view_is) (sure_fine c.put.result _ _ h)

pub returns-in_default-clause-err : goal.returns-in_default-clause-err
returns-in_default-clause-err g c =
    let seen : text_seen c.args.session c.args.name.now c.args.serial c.args.self.now.state.world.files ≡ Ok (g.T.Text.content c.in_ok-text_seen.field-0.now) = rw (← c.self.view_is) c.in_ok-text_seen.ensures.ok in
    (refl, λ _. edit_bad c.args.session c.args.name.now c.args.serial c.args.at c.args.del c.args.ins.now c.args.self.now.state _ seen (not_utf8 _ c.in_default.ensures.cases.0))

pub returns-clause-ok : goal.returns-clause-ok
returns-clause-ok g c =
    let seen : text_seen c.args.session c.args.name.now c.args.serial c.args.self.now.state.world.files ≡ Ok (g.T.Text.content c.in_ok-text_seen.field-0.now) = rw (← c.self.view_is) c.in_ok-text_seen.ensures.ok in
    let ins : c.in-Ok.ins.now ≡ c.args.ins.now = c.in-Ok.ensures.cases.0 in
    let utf8 : is_utf8 c.args.ins.now ≡ true = is_utf8-from_IsUtf8 _ c.in-Ok.ensures.cases.1 in
    IfOk-weaker c.put.result _ _ (λ serial puts. edit_answers c.args.session c.args.name.now c.args.serial c.args.ins.now c.args.self.now.state _ (record { at = c.args.at; del = c.args.del; ins = c.in-Ok.ins }) (Serial serial) c.put.new.self.state seen utf8 ins puts) c.put.ensures.ok

pub returns-clause-err : goal.returns-clause-err
returns-clause-err g c =
    let s = c.args.self.now.state in
    let seen : text_seen c.args.session c.args.name.now c.args.serial s.world.files ≡ Ok (g.T.Text.content c.in_ok-text_seen.field-0.now) = rw (← c.self.view_is) c.in_ok-text_seen.ensures.ok in
    let ins : c.in-Ok.ins.now ≡ c.args.ins.now = c.in-Ok.ensures.cases.0 in
    let utf8 : is_utf8 c.args.ins.now ≡ true = is_utf8-from_IsUtf8 _ c.in-Ok.ensures.cases.1 in
    let change : Change = record { at = c.args.at; del = c.args.del; ins = c.in-Ok.ins } in
    refuses_so (λ f. changes s (put c.args.name.now s (edited_named c.args.name.now change s.world.files)) ≡ record { reply = Refused f; after = c.put.new.self.state }) (λ f. Answers (EditFile c.args.session c.args.name.now c.args.serial c.args.at c.args.del c.args.ins.now) s (Refused f) s) c.put.result
    (λ (same : c.put.new.self.state ≡ s) f puts. edit_answers c.args.session c.args.name.now c.args.serial c.args.ins.now s _ change (Refused f) s seen utf8 ins (puts ∙ (λ i. record { reply = Refused f; after = same i }))) c.put.ensures.err c.put.ensures.refused
