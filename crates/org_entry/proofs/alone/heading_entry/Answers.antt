-- The title lies within the line.
use Rattle.std.proofs.Common.{ap, ap₂, ◌∙◌, ◌++◌, arith, length, drop, length-take}
use Rattle.org_base.proofs.SpanLemmas.{bytes_taken}
use Rattle.org_entry.specs.Details.{nothing}
use Rattle.org_entry.specs.Entry.{active_at}
use Rattle.org_entry.proofs.AloneLemmas.{heading_says}
use Rattle.org_entry.proofs.alone.heading_entry.Goals as goal

pub push_active-requires : goal.push_active-requires
push_active-requires c =
    let title = c.in_ok-head.head.title in
    let count = ap length (c.part.ensures.value ∙ bytes_taken c.args.line.now title) in
    let short = length-take title.len (drop title.at c.args.line.now) in
    record { fits = omega (arith, count, short, c.in_ok-head.ensures.within.title, c.requires.fits) }

pub returns-clause-value : goal.returns-clause-value
returns-clause-value c =
    let head = c.in_ok-head.head in
    let stamps = c.in_ok-push_active.ensures.ok ∙ ap₂ (λ s b. s ++ active_at head.title.at b) c.new-stamps.ensures.value c.part.ensures.value in
    heading_says c.args.settings.now c.args.line.now _ head _
    (c.in_ok-push.ensures.ok ∙ ap (λ t. t ++ c.args.line.now) c.new-text.ensures.value)
    c.in_ok-head.ensures.value
    (c.in_ok-details.ensures.value ∙ ap (λ s. record nothing { stamps = s }) stamps)
