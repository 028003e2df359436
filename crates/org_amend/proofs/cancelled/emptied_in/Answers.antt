-- What is found lies in the section.
use Rattle.std.proofs.Common.{arith, subst, sym}
use Rattle.org_amend.proofs.DrawerLemmas.{emptied_within}
use Rattle.org_amend.proofs.WithinLemmas.{closing_within, drawer_ends, logbook_within}
use Rattle.org_amend.specs.Cancelled.{LiesIn, behind_clock}
use Rattle.org_amend.specs.Places.{logbook_in}
use Rattle.org_amend.specs.Within.{LiesInside}
use Rattle.org_base.specs.declared.span.Span.{Span}
use Rattle.org_amend.proofs.cancelled.emptied_in.Goals as goal

pub emptied_part-requires-clause-drawer : goal.emptied_part-requires-clause-drawer
emptied_part-requires-clause-drawer g c =
    let text = g.T.Text.content c.args.text.now in
    drawer_ends c.args.section (logbook_in text c.args.section c.args.classes.now) c.in_ok-drawer.drawer 4294967296
    (logbook_within text c.args.section c.args.classes.now c.requires.within) (omega arith) c.in_ok-drawer.ensures.value

pub emptied_part-requires-clause-fits : goal.emptied_part-requires-clause-fits
emptied_part-requires-clause-fits g c =
    let text = g.T.Text.content c.args.text.now in
    let short = closing_within text (behind_clock c.args.section c.args.clock) (omega arith) in
    omega (arith, short, c.in_ok-closing.ensures.value)

pub returns-clause-within : goal.returns-clause-within
returns-clause-within g c =
    let text = g.T.Text.content c.args.text.now in
    let short = closing_within text (behind_clock c.args.section c.args.clock) (omega arith) in
    let inside = subst (LiesInside c.args.section) (sym c.in_ok-drawer.ensures.value) (logbook_within text c.args.section c.args.classes.now c.requires.within) in
    subst (λ (part : Span). LiesIn c.args.section part) (sym c.emptied_part.ensures.value)
    (emptied_within c.args.section c.in_ok-drawer.drawer c.args.clock c.in_ok-closing.closing inside c.requires.clock (omega (arith, short, c.in_ok-closing.ensures.value)))
