-- The title lies within the line.
use Rattle.std.proofs.Common.{ap, ◌∙◌, arith, length, drop, length-take}
use Rattle.org_base.proofs.SpanLemmas.{bytes_taken}
use Rattle.org_entry.proofs.draft.Draft.add_heading.Goals as goal

pub push_active-requires : goal.push_active-requires
push_active-requires c =
    let title = c.in_ok-head.head.title in
    let count = ap length (c.part.ensures.value ∙ bytes_taken c.args.line.now title) in
    let short = length-take title.len (drop title.at c.args.line.now) in
    record { fits = omega (arith, count, short, c.in_ok-head.ensures.within.title, c.requires.fits) }
