-- The span at a place is that of the section there.
use Rattle.org_act.proofs.ClockSpanLemmas.{found_span, span_inside}
use Rattle.org_act.proofs.clock_section.span_at.Goals as goal

pub returns-clause-value : goal.returns-clause-value
returns-clause-value c = found_span c.args.text.now c.args.place c.in_ok-sections.field-0 c.in-Some.span c.requires.there c.in-Some.ensures.value c.in_ok-sections.ensures.value

pub returns-clause-within : goal.returns-clause-within
returns-clause-within c = span_inside c.args.text.now c.args.place c.in_ok-sections.field-0 c.in-Some.span c.in_ok-sections.ensures.inside c.in-Some.ensures.value
