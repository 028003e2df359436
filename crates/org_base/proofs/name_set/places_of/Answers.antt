use Rattle.std.proofs.Common.{◌≡◌, ◌∙◌, ap, sym, map, take, length, Some, refl, arith}
use Rattle.std.specs.Prelude.{bytes_eq, position, slice_get}
use Rattle.std.proofs.lemmas.Option.{slice_get_read}
use Rattle.org_base.proofs.NameLemmas.{found_more, names_to, names_len}
use Rattle.org_base.proofs.name_set.places_of.Goals as goal

pub loop-place-preserved : goal.loop-place-preserved
loop-place-preserved c = λ name.
    let names = c.args.names.now in
    let place = c.loop-place.place in
    let v = c.index-names-place.result in
    let there : slice_get names place ≡ Some v = slice_get_read names (length names) place v refl (omega (arith, c.loop-place-test.true)) c.index-names-place.is in
    found_more c.loop-place.places.entries c.note.new.places.entries (map (λ v. v.items) (take place names)) v.items place (names_len names place (omega (arith, c.loop-place-test.true))) c.loop-place.invariant (rw c.as_slice.ensures.value at c.in_ok-note.ensures.ok) name
    ∙ ap (position (bytes_eq name)) (sym (names_to names place v there))
