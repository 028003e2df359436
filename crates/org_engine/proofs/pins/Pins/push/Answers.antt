use Rattle.std.proofs.Common.{◌≡◌, ◌∙◌, ap, subst, sym}
use Rattle.std.specs.Prelude.{None}
use Rattle.org_engine.specs.Marks.{marks_kept}
use Rattle.org_engine.specs.Pins.{pin_marks, pins_of}
use Rattle.org_engine.specs.Step.{world_of}
use Rattle.org_engine.specs.World.{KeptPins}
use Rattle.org_engine.proofs.PinLemmas.{own_pushed, pin_marks-append, pins_of-append}
use Rattle.org_engine.proofs.pins.Pins.push.Goals as goal

pub returns-clause-ok : goal.returns-clause-ok
returns-clause-ok g c =
    let items = c.self.inside.pins.items in
    let more = c.in_ok-push.ensures.items in
    rw (← c.self.view_is) (λ i. record {
      pins = (ap pins_of more ∙ pins_of-append items _) i;
      marks = (ap pin_marks more ∙ pin_marks-append items _) i;
    })

pub returns-clause-marks : goal.returns-clause-marks
returns-clause-marks g c = λ none.
    let items = c.self.inside.pins.items in
    let more = c.in_ok-push.ensures.items in
    let gone : world_of c.args.session (pins_of items) ≡ None = subst (λ (p : KeptPins). world_of c.args.session p.pins ≡ None) (sym c.self.view_is) none in
    (λ i. marks_kept c.args.session ((ap pins_of more ∙ pins_of-append items _) i) ((ap pin_marks more ∙ pin_marks-append items _) i))
    ∙ own_pushed c.args.session items c.args.world gone
