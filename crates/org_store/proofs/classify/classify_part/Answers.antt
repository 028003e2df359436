-- One section more; where memory is refused to one, it and those before it were counted.
use Rattle.std.proofs.Common.{◌∙◌, ap, sym, arith, length}
use Rattle.std.proofs.Math.Numerals.{add-one}
use Rattle.std.proofs.lemmas.List.{length-map}
use Rattle.org_base.specs.Counts.{ticked}
use Rattle.org_base.specs.Spans.{bytes_in}
use Rattle.org_base.specs.declared.meter.Tick.TheVariants.{Classify}
use Rattle.org_class.specs.Sections.{sections}
use Rattle.org_class.proofs.SettingLemmas.{one_counted}
use Rattle.org_class.specs.Ticks.{classified}
use Rattle.org_store.proofs.FreshLemmas.{fresh_more}
use Rattle.org_store.proofs.classify.classify_part.Goals as goal

pub returns-in_err-section-clause-partial : goal.returns-in_err-section-clause-partial
returns-in_err-section-clause-partial g c =
    let t = g.T.Text.content c.args.text.now in
    let count = length-map c.in_ok-spans.spans (bytes_in t) in
    one_counted c.from_residual-in_err-section.result (sections (bytes_in t c.args.part)) c.loop-span.span-index _ _ _ (omega (arith, ap length c.as_slice-span-items.ensures.value, ap length c.in_ok-spans.ensures.value.bytes, count)) c.classify_section.ensures.counts c.loop-span.invariant.counts

pub returns-in_err-push-clause-partial : goal.returns-in_err-push-clause-partial
returns-in_err-push-clause-partial g c =
    let t = g.T.Text.content c.args.text.now in
    let count = length-map c.in_ok-spans.spans (bytes_in t) in
    one_counted c.from_residual-in_err-push.result (sections (bytes_in t c.args.part)) c.loop-span.span-index _ _ _ (omega (arith, ap length c.as_slice-span-items.ensures.value, ap length c.in_ok-spans.ensures.value.bytes, count)) c.classify_section.ensures.counts c.loop-span.invariant.counts

pub loop-span-preserved : goal.loop-span-preserved
loop-span-preserved g c = record {
  all = fresh_more (g.T.Text.content c.args.text.now) _ c.loop-span.span-index _ c.loop-span.all.items _ _ _ (omega (arith, c.loop-span-test.true)) c.in_ok-section.ensures.value c.in_ok-push.ensures.items c.loop-span.invariant.all;
  counts = c.classify_section.ensures.counts ∙ ap (ticked Classify) c.loop-span.invariant.counts ∙ ap (λ n. classified n c.args.meter.now) (sym (add-one c.loop-span.span-index));
}
