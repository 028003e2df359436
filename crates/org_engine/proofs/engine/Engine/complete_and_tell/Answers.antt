use Rattle.std.proofs.Common.{◌≡◌, refl}
use Rattle.std.specs.Prelude.{Ok}
use Rattle.org_complete.specs.Parts.{Part}
use Rattle.org_complete.specs.Written.{part_of}
use Rattle.org_engine.specs.Marks.{Unseen}
use Rattle.org_engine.specs.Step.{text_seen}
use Rattle.org_engine.proofs.CompletedLemmas.{completed_err, completed_fails, completed_few, completed_marks, completed_none, completed_own, completed_so, none_completed}
use Rattle.org_engine.proofs.MarkLemmas.{on_err, refused_so}
use Rattle.org_engine.proofs.PassedLemmas.{quiet_passed}
use Rattle.org_engine.proofs.SureLemmas.{sure_fine, sure_passed}
use Rattle.org_engine.proofs.engine.Engine.complete_and_tell.Goals as goal

pub returns-in_err-text_seen-clause-partial : goal.returns-in_err-text_seen-clause-partial
returns-in_err-text_seen-clause-partial g c = on_err c.from_residual.result (none_completed c.args.name.now c.args.line c.args.keyword.now c.args.self.now)

pub returns-in_err-change-clause-partial : goal.returns-in_err-change-clause-partial
returns-in_err-change-clause-partial g c =
    let now = c.self.inside in
    on_err c.from_residual-in_err-change.result (rw (← c.self.view_is) (completed_none c.args.name.now c.args.line c.args.keyword.now now.world c.complete_heading.new.self now.pins now.serial now.meter c.complete_heading.new.meter c.in_err-change.ensures.read))

pub returns-in_err-text_seen-clause-refused : goal.returns-in_err-text_seen-clause-refused
returns-in_err-text_seen-clause-refused g c = refused_so _ c.from_residual.result (rw (← c.self.view_is) (Unseen c.in_err-text_seen.field-0.0 c.in_err-text_seen.ensures.err (refl, refl)))

pub returns-in_err-change-clause-err : goal.returns-in_err-change-clause-err
returns-in_err-change-clause-err g c =
    let now = c.self.inside in
    let seen : text_seen c.args.session c.args.name.now c.args.serial now.world.world.files ≡ Ok (g.T.Text.content c.in_ok-text_seen.field-0.now) = c.in_ok-text_seen.ensures.ok in
    rw (← c.self.view_is) (completed_err c.args.name.now c.args.line c.args.keyword.now now.world c.complete_heading.new.self now.pins now.serial now.meter c.complete_heading.new.meter c.in_err-change.ensures.read c.args.session c.args.serial _ c.in_err-change.field-0.0 c.from_residual-in_err-change.result seen c.in_err-change.ensures.fault c.from_residual-in_err-change.ensures.1)

pub returns-in_err-change-clause-refused : goal.returns-in_err-change-clause-refused
returns-in_err-change-clause-refused g c =
    let now = c.self.inside in
    let seen : text_seen c.args.session c.args.name.now c.args.serial now.world.world.files ≡ Ok (g.T.Text.content c.in_ok-text_seen.field-0.now) = c.in_ok-text_seen.ensures.ok in
    rw (← c.self.view_is) (quiet_passed _ _ c.from_residual-in_err-change.result c.in_err-change.field-0.0 c.from_residual-in_err-change.ensures.1 c.in_err-change.ensures.refused (λ own. completed_own c.args.name.now c.args.line c.args.keyword.now now.world c.complete_heading.new.self now.pins now.serial now.meter c.complete_heading.new.meter own.one c.args.session c.args.serial _ _ seen own.own (refl, refl)))

pub returns-clause-marks : goal.returns-clause-marks
returns-clause-marks g c =
    let now = c.self.inside in
    let made : ◌≡◌ {A = Part} (record { at = c.lend.result.at; del = c.lend.result.del; ins = c.lend.result.ins.now }) (part_of c.in_ok-change.change) = λ i. record { at = c.lend.ensures.at i; del = c.lend.ensures.del i; ins = c.lend.ensures.ins i } in
    rw (← c.self.view_is) (completed_marks c.args.name.now c.args.line c.args.keyword.now now.world c.complete_heading.new.self now.pins now.serial now.meter c.complete_heading.new.meter c.in_ok-change.ensures.exact.one c.in_ok-change.change c.in_ok-change.ensures.value c.lend.result made c.put.new.self c.in_ok-change.ensures.exact.own c.in_ok-serial.ensures.marks)

pub returns-in_err-serial-clause-partial : goal.returns-in_err-serial-clause-partial
returns-in_err-serial-clause-partial g c =
    let now = c.self.inside in
    let made : ◌≡◌ {A = Part} (record { at = c.lend.result.at; del = c.lend.result.del; ins = c.lend.result.ins.now }) (part_of c.in_ok-change.change) = λ i. record { at = c.lend.ensures.at i; del = c.lend.ensures.del i; ins = c.lend.ensures.ins i } in
    on_err c.from_residual-in_err-serial.result (rw (← c.self.view_is) (completed_few c.args.name.now c.args.line c.args.keyword.now now.world c.complete_heading.new.self now.pins now.serial now.meter c.complete_heading.new.meter c.in_ok-change.ensures.read c.in_ok-change.change c.in_ok-change.ensures.value c.lend.result made c.put.new.self c.in_err-serial.ensures.partial))

pub returns-in_err-serial-clause-definite : goal.returns-in_err-serial-clause-definite
returns-in_err-serial-clause-definite g c =
    let h : text_seen c.args.session c.args.name.now c.args.serial c.self.inside.world.world.files ≡ Ok (g.T.Text.content c.in_ok-text_seen.field-0.now) = c.in_ok-text_seen.ensures.ok in
    rw (← c.self.view_is) (sure_fine c.from_residual-in_err-serial.result _ _ h)

pub returns-in_err-text_seen-clause-definite : goal.returns-in_err-text_seen-clause-definite
returns-in_err-text_seen-clause-definite g c = sure_passed c.from_residual.result _ c.in_err-text_seen.field-0.0 c.from_residual.ensures.1 (rw (← c.self.view_is) c.in_err-text_seen.ensures.err)

pub returns-in_err-change-clause-definite : goal.returns-in_err-change-clause-definite
returns-in_err-change-clause-definite g c =
    let h : text_seen c.args.session c.args.name.now c.args.serial c.self.inside.world.world.files ≡ Ok (g.T.Text.content c.in_ok-text_seen.field-0.now) = c.in_ok-text_seen.ensures.ok in
    rw (← c.self.view_is) (sure_fine c.from_residual-in_err-change.result _ _ h)

pub returns-in_err-serial-clause-refused : goal.returns-in_err-serial-clause-refused
returns-in_err-serial-clause-refused g c =
    let now = c.self.inside in
    let seen : text_seen c.args.session c.args.name.now c.args.serial now.world.world.files ≡ Ok (g.T.Text.content c.in_ok-text_seen.field-0.now) = c.in_ok-text_seen.ensures.ok in
    let exact = c.in_ok-change.ensures.exact in
    rw (← c.self.view_is) (quiet_passed _ _ c.from_residual-in_err-serial.result c.in_err-serial.field-0.0 c.from_residual-in_err-serial.ensures.1 c.in_err-serial.ensures.uncounted (λ quiet. completed_own c.args.name.now c.args.line c.args.keyword.now now.world c.complete_heading.new.self now.pins now.serial now.meter c.complete_heading.new.meter exact.one c.args.session c.args.serial _ c.put.new.self seen exact.own quiet))

pub returns-clause-ok : goal.returns-clause-ok
returns-clause-ok g c =
    let now = c.self.inside in
    let seen : text_seen c.args.session c.args.name.now c.args.serial now.world.world.files ≡ Ok (g.T.Text.content c.in_ok-text_seen.field-0.now) = c.in_ok-text_seen.ensures.ok in
    rw (← c.self.view_is) (completed_so c.args.name.now c.args.line c.args.keyword.now now.world c.complete_heading.new.self now.pins now.serial now.meter c.complete_heading.new.meter c.in_ok-change.ensures.read c.args.session c.args.serial _ c.in_ok-change.change c.lend.result _ _
    seen c.in_ok-change.ensures.value c.lend.ensures.at c.lend.ensures.del c.lend.ensures.ins c.in_ok-serial.ensures.ok)

pub returns-in_err-serial-clause-err : goal.returns-in_err-serial-clause-err
returns-in_err-serial-clause-err g c =
    let now = c.self.inside in
    let seen : text_seen c.args.session c.args.name.now c.args.serial now.world.world.files ≡ Ok (g.T.Text.content c.in_ok-text_seen.field-0.now) = c.in_ok-text_seen.ensures.ok in
    rw (← c.self.view_is) (completed_fails c.args.name.now c.args.line c.args.keyword.now now.world c.complete_heading.new.self now.pins now.serial now.meter c.complete_heading.new.meter c.in_ok-change.ensures.read c.args.session c.args.serial _ c.in_ok-change.change c.lend.result _ c.in_err-serial.field-0.0 c.from_residual-in_err-serial.result
    seen c.in_ok-change.ensures.value c.lend.ensures.at c.lend.ensures.del c.lend.ensures.ins c.from_residual-in_err-serial.ensures.1 c.in_err-serial.ensures.err c.in_err-serial.ensures.refused)
