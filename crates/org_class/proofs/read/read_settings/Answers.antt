-- Where memory is refused to a section, it and those before it were counted.
use Rattle.std.proofs.Common.{ap, arith, length}
use Rattle.std.proofs.lemmas.List.{length-map}
use Rattle.org_base.specs.Spans.{bytes_in}
use Rattle.org_class.specs.Sections.{sections}
use Rattle.org_class.proofs.SettingLemmas.{one_counted}
use Rattle.org_class.proofs.read.read_settings.Goals as goal

pub returns-in_err-classes-clause-partial : goal.returns-in_err-classes-clause-partial
returns-in_err-classes-clause-partial g c =
    let t = g.T.Text.content c.args.text.now in
    let count = length-map c.in_ok-spans.spans (bytes_in t) in
    one_counted c.from_residual-in_err-classes.result (sections t) c.loop-span.span-index _ _ _ (omega (arith, ap length c.as_slice-span-items.ensures.value, ap length c.in_ok-spans.ensures.bytes, count)) c.classify.ensures.counts c.loop-span.invariant.counts

pub returns-in_err-push_setting_lines-clause-partial : goal.returns-in_err-push_setting_lines-clause-partial
returns-in_err-push_setting_lines-clause-partial g c =
    let t = g.T.Text.content c.args.text.now in
    let count = length-map c.in_ok-spans.spans (bytes_in t) in
    one_counted c.from_residual-in_err-push_setting_lines.result (sections t) c.loop-span.span-index _ _ _ (omega (arith, ap length c.as_slice-span-items.ensures.value, ap length c.in_ok-spans.ensures.bytes, count)) c.classify.ensures.counts c.loop-span.invariant.counts
