-- One component more.
use Rattle.std.proofs.Common.{◌≡◌, ◌∙◌, ◌+◌, ◌∷◌, ap, arith, cond, drop, drop-cons, map, refl, suc, sym}
use Rattle.std.specs.Prelude.{bytes_eq}
use Rattle.org_ical.specs.Components.{component_text}
use Rattle.org_ical.specs.Counts.{count_of}
use Rattle.org_ical.specs.Uids.{times_in, uid_text}
use Rattle.org_ical.proofs.CalendarLemmas.{components_more, counted_more}
use Rattle.org_ical.proofs.calendar.push_components.Goals as goal

pub loop-component-preserved : goal.loop-component-preserved
loop-component-preserved c =
    let item = c.component-item.result in
    let key = item.key.items in
    let seen = c.loop-component.invariant.0 in
    let same : c.as_slice.result.now ≡ key = c.as_slice.ensures.value in
    let number : c.in_ok-number.number ≡ times_in key seen + 1 =
    c.in_ok-number.ensures.value ∙ ap (λ k. count_of c.loop-component.counts k + 1) same ∙ ap (λ n. n + 1) (c.loop-component.invariant.1 key) in
    let uid : c.as_slice-in-loop-component-2.result.now ≡ uid_text key (times_in key seen + 1) =
    c.as_slice-in-loop-component-2.ensures.value ∙ c.in_ok-uid.ensures.value ∙ ap (λ k. uid_text k c.in_ok-number.number) c.as_slice-in-loop-component.ensures.value ∙ ap (uid_text key) number in
    let stamp = c.args.stamp.now in
    let place = c.loop-component.component-index in
    let next : suc place ≡ place + 1 = omega arith in
    let parts = ap (map component_text) (drop-cons c.args.components.now place item c.loop-component-test.true ∙ (λ i. sym c.component-item.is i ∷ drop (next i) c.args.components.now)) in (
      key ∷ seen,
      λ q. c.in_ok-number.ensures.counted q
          ∙ ap (λ k. cond (bytes_eq q k) (count_of c.loop-component.counts k + 1) (count_of c.loop-component.counts q)) same
          ∙ counted_more c.loop-component.counts seen key q c.loop-component.invariant.1,
      omega (arith, c.loop-component.invariant.2),
      components_more stamp key c.as_slice-in-loop-component-2.result.now seen (component_text item) _ _ c.loop-component.out.items _ _ parts refl uid c.in_ok-push.ensures.value c.loop-component.invariant.3,
    )
