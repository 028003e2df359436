use Rattle.std.proofs.Common.{◌≡◌, ◌<◌, ◌∙◌, ap, arith, get_or, length, sym}
use Rattle.std.specs.Prelude.{Some}
use Rattle.org_engine.specs.Pins.{IsPlaceOf, pin_marks, pins_of}
use Rattle.org_engine.specs.World.{KeptPin, KeptWorld, PinView}
use Rattle.org_engine.proofs.PinLemmas.{length-pins_of, marks_there, pin_at}
use Rattle.org_engine.proofs.pins.Pins.world.Goals as goal

pub index-requires : goal.index-requires
index-requires g c =
    let items = c.self.inside.pins.items in
    let place : IsPlaceOf c.args.session (pins_of items) c.in_ok-place.place = rw c.as_slice.ensures.value at c.in_ok-place.ensures.some in
    let within = place.within in
    omega (arith, within, length-pins_of items)

pub returns-clause-some : goal.returns-clause-some
returns-clause-some g c =
    let items = c.self.inside.pins.items in
    let at = c.in_ok-place.place in
    let place : IsPlaceOf c.args.session (pins_of items) at = rw c.as_slice.ensures.value at c.in_ok-place.ensures.some in
    let shown = place.within in
    let within : at < length items = omega (arith, shown, length-pins_of items) in
    let pin : KeptPin = c.index.result.now in
    let is : pin ≡ get_or items at pin = c.index.ensures in
    let any : PinView = record { session = 0; world = pin.kept.world } in
    let kept : c.world.result.now ≡ (get_or items at pin).kept = c.world.ensures.value ∙ ap (λ (p : KeptPin). p.kept) is in
    rw (← c.self.view_is) (record {
      world = place.world any ∙ ap Some (pin_at items at any pin within ∙ sym (ap (λ (k : KeptWorld). k.world) kept));
      marks = ap (λ (k : KeptWorld). k.marks) kept ∙ sym (marks_there items at pin within) ∙ sym (place.own (pin_marks items));
    })
