-- The section that begins with the line is completed; where none does, no heading stands there.
use Rattle.std.proofs.Common.{◌≡◌, ◌∙◌, ℕ, List, ap, sym, subst, refl}
use Rattle.std.specs.Prelude.{Err, IfOk, Result}
use Rattle.org_base.specs.Results.{IfRefused}
use Rattle.org_base.specs.declared.fault.Fault.{Fault}
use Rattle.org_complete.specs.Completion.{completed, completed_at, completion_part, part_at}
use Rattle.org_complete.specs.Written.{IsCompletionAt}
use Rattle.org_complete.proofs.CompleteLemmas.{completed_there, no_heading, part_there, same_part}
use Rattle.org_complete.proofs.ReadingLemmas.{none_own, none_read, ok_own, one_read, refused_own}
use Rattle.org_complete.proofs.StartLemmas.{none_at_start, start_in}
use Rattle.org_store.specs.File.{FileView}
use Rattle.org_complete.proofs.completion.complete.Goals as goal

pub returns-in_default-clause-fault : goal.returns-in_default-clause-fault
returns-in_default-clause-fault g c = λ _. no_heading c.args.file.now.text c.args.line c.args.keyword.now c.args.moment (c.in_default.ensures.none refl)

pub returns-in_default-clause-read : goal.returns-in_default-clause-read
returns-in_default-clause-read g c = none_read c.args.file.now c.args.meter.now

pub returns-in_default-clause-refused : goal.returns-in_default-clause-refused
returns-in_default-clause-refused g c = λ _. none_own c.args.line c.args.file.now c.args.meter.now (c.in_default.ensures.none refl)

pub has_heading_at-requires : goal.has_heading_at-requires
has_heading_at-requires g c = record { within = start_in c.args.file.now.text (g.T.Text.content c.text.result.now) c.in-Some.place c.start.result c.text.ensures.value c.start.ensures.value }

pub returns-then-not-has_heading_at-clause-fault : goal.returns-then-not-has_heading_at-clause-fault
returns-then-not-has_heading_at-clause-fault g c = λ _. no_heading c.args.file.now.text c.args.line c.args.keyword.now c.args.moment
    (none_at_start c.args.file.now.text (g.T.Text.content c.text.result.now) c.args.line c.in-Some.place c.start.result c.has_heading_at.result c.in-Some.ensures.some c.text.ensures.value c.start.ensures.value c.has_heading_at.ensures.value c.if-not-has_heading_at.true)

pub returns-then-not-has_heading_at-clause-refused : goal.returns-then-not-has_heading_at-clause-refused
returns-then-not-has_heading_at-clause-refused g c = λ _. none_own c.args.line c.args.file.now c.args.meter.now
    (none_at_start c.args.file.now.text (g.T.Text.content c.text.result.now) c.args.line c.in-Some.place c.start.result c.has_heading_at.result c.in-Some.ensures.some c.text.ensures.value c.start.ensures.value c.has_heading_at.ensures.value c.if-not-has_heading_at.true)

pub returns-clause-exact : goal.returns-clause-exact
returns-clause-exact g c =
    ok_own c.args.line c.args.file.now c.read.new.self c.in-Some.place c.args.meter.now c.read.new.meter c.complete_section.result c.in-Some.ensures.some c.in_ok-read.ensures.ok c.in_ok-read.ensures.counts

pub returns-clause-refused : goal.returns-clause-refused
returns-clause-refused g c =
    refused_own c.args.line c.args.file.now c.read.new.self c.in-Some.place c.args.meter.now c.read.new.meter c.complete_section.result c.in-Some.ensures.some c.in_ok-read.ensures.ok c.in_ok-read.ensures.counts

pub returns-clause-value : goal.returns-clause-value
returns-clause-value g c =
    let t = c.args.file.now.text in
    let place = c.in-Some.place in
    let word = c.args.keyword.now in
    let same : c.read.new.self.text ≡ t = ap (λ (f : FileView). f.text) c.in_ok-read.ensures.ok in
    same_part t c.complete_section.result (part_at t place word c.args.moment) (completion_part t c.args.line word c.args.moment) (completed_at t place word c.args.moment) (completed t c.args.line word c.args.moment)
    (part_there t c.args.line place word c.args.moment c.in-Some.ensures.some) (completed_there t c.args.line place word c.args.moment c.in-Some.ensures.some)
    (subst (λ x. IfOk c.complete_section.result (IsCompletionAt x place word c.args.moment)) same c.complete_section.ensures.value)

pub returns-clause-fault : goal.returns-clause-fault
returns-clause-fault g c =
    let t = c.args.file.now.text in
    let there = completed_there t c.args.line c.in-Some.place c.args.keyword.now c.args.moment c.in-Some.ensures.some in
    let same = ap (λ (f : FileView). completed_at f.text c.in-Some.place c.args.keyword.now c.args.moment) c.in_ok-read.ensures.ok in
    subst (λ (w : Result (List ℕ) Fault). IfRefused c.complete_section.result (λ fault. w ≡ Err fault)) (same ∙ sym there) c.complete_section.ensures.fault

pub returns-clause-read : goal.returns-clause-read
returns-clause-read g c =
    one_read c.args.file.now c.read.new.self c.in-Some.place c.args.meter.now c.read.new.meter c.in-Some.ensures.within c.in_ok-read.ensures.ok c.in_ok-read.ensures.counts
