-- The section that begins with the line is the heading's, if it begins with one.
use Rattle.std.proofs.Common.{◌∙◌, List, ℕ, ap, sym}
use Rattle.std.specs.Prelude.{Ok}
use Rattle.org_act.proofs.ClockSpanLemmas.{heading_found, no_section, section_found}
use Rattle.org_act.specs.ClockSections.{span_at}
use Rattle.org_complete.proofs.StartLemmas.{none_at_start, start_in}
use Rattle.org_act.proofs.clock_section.section_on.Goals as goal

pub has_heading_at-requires : goal.has_heading_at-requires
has_heading_at-requires c = record { within = start_in c.args.file.now.text c.text.result.now c.in-Some.place c.start.result c.text.ensures.value c.start.ensures.value }

pub returns-then-not-has_heading_at-clause-value : goal.returns-then-not-has_heading_at-clause-value
returns-then-not-has_heading_at-clause-value c = λ _. no_section c.args.file.now.text c.args.line
    (none_at_start c.args.file.now.text c.text.result.now c.args.line c.in-Some.place c.start.result c.has_heading_at.result c.in-Some.ensures.some c.text.ensures.value c.start.ensures.value c.has_heading_at.ensures.value c.if-not-has_heading_at.true)

pub returns-clause-value : goal.returns-clause-value
returns-clause-value c =
    let t = c.args.file.now.text in
    let there = heading_found t c.text.result.now c.args.line c.in-Some.place c.start.result c.has_heading_at.result c.in-Some.ensures.some c.text.ensures.value c.start.ensures.value c.has_heading_at.ensures.value c.if-not-has_heading_at.false in
    let own = c.in_ok-span_at.ensures.value ∙ ap (λ (x : List ℕ). span_at x c.in-Some.place) c.text-2.ensures.value in
    section_found t c.args.line c.in-Some.place c.in-Some.ensures.some there ∙ ap Ok (sym own)
