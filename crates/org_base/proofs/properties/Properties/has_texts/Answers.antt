use Rattle.std.proofs.Common.{◌≡◌, ◌∙◌, ◌&&◌, ◌+◌, ap, sym, arith, drop, length, true, false, []}
use Rattle.std.proofs.lemmas.List.{drop_all}
use Rattle.org_base.specs.Properties.{Value, has_texts, is_text, value_in}
use Rattle.org_base.specs.Shown.{shown}
use Rattle.org_base.proofs.PropertyLemmas.{as_many_shown}
use Rattle.org_base.proofs.TextLemmas.{next_text}
use Rattle.org_base.proofs.properties.Properties.has_texts.Goals as goal

pub returns-then-not-has_text : goal.returns-then-not-has_text
returns-then-not-has_text c =
    let ps = c.args.self.now in
    let ns = c.other.inside.names in
    let vs = c.other.inside.values.items in
    let place = c.loop-place.place in
    let text = c.as_slice.ensures.value ∙ ap (λ (v : Value). v.text) c.behind-other.view_is in
    let test : is_text c.index.result.now.text (value_in ps c.get.result.now) ≡ false = ap (λ t. is_text t (value_in ps c.get.result.now)) (sym text) ∙ (sym c.has_text.ensures.value ∙ c.if-not-has_text.true) in
    let next = next_text ps ns vs place c.get.result.now c.index.result.now c.other.invariant.as_many (omega (arith, c.loop-place-test.true, c.count-place-end.ensures.value)) c.get.ensures.value c.index.ensures in
    record {
      value = sym (sym c.loop-place.invariant ∙ ap (λ qs. has_texts ps (drop place qs)) (sym c.other.view_is) ∙ next ∙ ap (λ b. b && has_texts ps (drop (place + 1) (shown ns vs))) test);
    }

pub loop-place-preserved : goal.loop-place-preserved
loop-place-preserved c =
    let ps = c.args.self.now in
    let ns = c.other.inside.names in
    let vs = c.other.inside.values.items in
    let place = c.loop-place.place in
    let text = c.as_slice.ensures.value ∙ ap (λ (v : Value). v.text) c.behind-other.view_is in
    let test : is_text c.index.result.now.text (value_in ps c.get.result.now) ≡ true = ap (λ t. is_text t (value_in ps c.get.result.now)) (sym text) ∙ (sym c.has_text.ensures.value ∙ c.if-not-has_text.false) in
    let next = next_text ps ns vs place c.get.result.now c.index.result.now c.other.invariant.as_many (omega (arith, c.loop-place-test.true, c.count-place-end.ensures.value)) c.get.ensures.value c.index.ensures in
    ap (λ qs. has_texts ps (drop (place + 1) qs)) (sym c.other.view_is)
    ∙ sym (next ∙ ap (λ b. b && has_texts ps (drop (place + 1) (shown ns vs))) test)
    ∙ ap (λ qs. has_texts ps (drop place qs)) c.other.view_is
    ∙ c.loop-place.invariant

pub returns : goal.returns
returns c =
    let ps = c.args.self.now in
    let ns = c.other.inside.names in
    let vs = c.other.inside.values.items in
    let past = as_many_shown ns vs c.other.invariant.as_many in
    let none : drop c.loop-place.place c.args.other.now ≡ [] =
    drop_all c.loop-place.place c.args.other.now (omega (arith, c.loop-place-test.false, c.count-place-end.ensures.value, c.other.invariant.as_many, past, ap length c.other.view_is)) in
    record { value = sym (ap (has_texts ps) none) ∙ c.loop-place.invariant }
