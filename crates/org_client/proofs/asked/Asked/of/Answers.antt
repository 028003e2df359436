-- One heading more is asked about.
use Rattle.std.proofs.Common.{◌+◌, List, take, sym, subst}
use Rattle.org_client.specs.RowIds.{AreAsked}
use Rattle.org_client.specs.declared.row_ids.HeadingAt.{HeadingAt}
use Rattle.org_client.proofs.AskedLemmas.{asked_step}
use Rattle.org_client.proofs.asked.Asked.of.Goals as goal

pub loop-heading-preserved : goal.loop-heading-preserved
loop-heading-preserved c =
    let headings : List HeadingAt = c.args.headings.now in
    let index = c.loop-heading.heading-index in
    subst (AreAsked c.args.files (take (index + 1) headings)) (sym c.in_ok-put.ensures.ok)
    (asked_step c.args.files headings c.loop-heading.asked index _ c.loop-heading-test.true c.loop-heading.invariant)
