use Rattle.std.proofs.Common.{◌≡◌, ◌∙◌, ◌+◌, List, ℕ, ap, false, refl, sym, true}
use Rattle.org_engine.specs.declared.limits.TheConstants.{LAST_SERIAL}
use Rattle.std.specs.Prelude.{Ok, nat_le}
use Rattle.org_store.specs.Change.{edited}
use Rattle.org_store.specs.File.{FileView as KeptFile}
use Rattle.org_engine.specs.Calls.{edited_file, edited_named}
use Rattle.org_engine.specs.Step.{Refused, Serial, changes, file_named, put, with_text}
use Rattle.org_engine.specs.World.{KeptWorld, State}
use Rattle.org_engine.proofs.ChangeLemmas.{puts_refused}
use Rattle.org_engine.proofs.FilesLemmas.{kept_text}
use Rattle.org_engine.proofs.MarkLemmas.{there_is_one}
use Rattle.org_engine.proofs.PassedLemmas.{passed}
use Rattle.org_engine.proofs.engine.Engine.put.Goals as goal

pub returns-clause-ok : goal.returns-clause-ok
returns-clause-ok g c =
    let s = c.self.inside in
    let name = c.args.name.now in
    let change = c.args.change in
    let files = s.world.world.files in
    let found = there_is_one (file_named name files) (rw (← c.self.view_is) at c.requires.there) in
    let answer : edited_named name change files ≡ Ok (edited found.0.text change) = ap (edited_file change) found.1 ∙ c.in_ok-edit.ensures.text found.0 found.1 in
    let done = c.in_ok-edit.ensures.ok in
    let left : nat_le LAST_SERIAL s.serial ≡ false = rw (← c.self.view_is) at (sym c.is_spent.ensures.value ∙ c.if-is_spent.false) in
    let same = kept_text name files s.world.marks done.before found.0 done.found found.1 in
    let t : done.after.text ≡ edited found.0.text change = ap (λ (f : KeptFile). f.text) done.changed.is ∙ ap (λ (x : List ℕ). edited x change) same in
    let q : done.after.serial ≡ s.serial + 1 = ap (λ (f : KeptFile). f.serial) done.changed.is in
    let world : c.edit.new.self.world ≡ record s.world.world { files = with_text name (edited found.0.text change) (s.serial + 1) files } =
    ap (λ (w : KeptWorld). w.world) done.is ∙ (λ i. record s.world.world { files = with_text name (t i) (q i) files }) in
    rw (← c.self.view_is, answer, left) (λ i. record { reply = Serial (s.serial + 1); after = record { world = sym world i; pins = s.pins.pins; serial = s.serial + 1 } })

pub returns-then-is_spent-clause-refused : goal.returns-then-is_spent-clause-refused
returns-then-is_spent-clause-refused g c = λ _.
    let s = c.self.inside in
    let name = c.args.name.now in
    let change = c.args.change in
    let found = there_is_one (file_named name s.world.world.files) (rw (← c.self.view_is) at c.requires.there) in
    let answer : edited_named name change s.world.world.files ≡ Ok (edited found.0.text change) = ap (edited_file change) found.1 ∙ c.in_ok-try_edit.ensures.ok found.0 found.1 in
    let spent : nat_le LAST_SERIAL s.serial ≡ true = rw (← c.self.view_is) at (sym c.is_spent.ensures.value ∙ c.if-is_spent.true) in
    rw (← c.self.view_is, answer, spent) refl

pub returns-in_err-try_edit-clause-refused : goal.returns-in_err-try_edit-clause-refused
returns-in_err-try_edit-clause-refused g c =
    let s = c.self.inside in
    let name = c.args.name.now in
    let change = c.args.change in
    let state : State = record { world = s.world.world; pins = s.pins.pins; serial = s.serial } in
    let found = there_is_one (file_named name s.world.world.files) (rw (← c.self.view_is) at c.requires.there) in
    rw (← c.self.view_is) (passed (λ f. changes state (put name state (edited_named name change state.world.files)) ≡ record { reply = Refused f; after = state }) c.from_residual.result c.in_err-try_edit.field-0.0 c.from_residual.ensures.1
    (λ other. puts_refused name change state found.0 c.in_err-try_edit.field-0.0 found.1 (c.in_err-try_edit.ensures.refused other found.0 found.1)))

pub returns-in_err-edit-clause-refused : goal.returns-in_err-edit-clause-refused
returns-in_err-edit-clause-refused g c =
    let s = c.self.inside in
    let name = c.args.name.now in
    let change = c.args.change in
    let state : State = record { world = s.world.world; pins = s.pins.pins; serial = s.serial } in
    let after : State = record { world = c.edit.new.self.world; pins = s.pins.pins; serial = s.serial } in
    let same : after ≡ state = λ i. record { world = (c.in_err-edit.ensures.err i).world; pins = s.pins.pins; serial = s.serial } in
    let found = there_is_one (file_named name s.world.world.files) (rw (← c.self.view_is) at c.requires.there) in
    rw (← c.self.view_is) (passed (λ f. changes state (put name state (edited_named name change state.world.files)) ≡ record { reply = Refused f; after = after }) c.from_residual-in_err-edit.result c.in_err-edit.field-0.0 c.from_residual-in_err-edit.ensures.1
    (λ other. puts_refused name change state found.0 c.in_err-edit.field-0.0 found.1 (c.in_err-edit.ensures.refused other found.0 found.1) ∙ (λ i. record { reply = Refused c.in_err-edit.field-0.0; after = sym same i })))
