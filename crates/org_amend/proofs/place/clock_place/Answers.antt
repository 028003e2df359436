use Rattle.std.proofs.Common.{◌∙◌, arith, subst, sym}
use Rattle.org_amend.proofs.WithinLemmas.{front_within, logbook_within}
use Rattle.org_amend.specs.Within.{LiesInside}
use Rattle.org_amend.proofs.place.clock_place.Goals as goal

pub returns-in-Some-clause-within : goal.returns-in-Some-clause-within
returns-in-Some-clause-within g c =
    (subst (LiesInside c.args.section) (sym c.in_ok-drawer.ensures.value ∙ c.in-Some.is) (logbook_within (g.T.Text.content c.args.text.now) c.args.section c.args.classes.now c.requires.within)).1

pub returns-in_ok-front_end-in-None-clause-within : goal.returns-in_ok-front_end-in-None-clause-within
returns-in_ok-front_end-in-None-clause-within g c =
    let within = front_within (g.T.Text.content c.args.text.now) c.args.section c.args.classes.now c.requires.within in
    omega (arith, within, c.in_ok-front_end-in-None.ensures.value)
