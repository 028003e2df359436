use Rattle.std.proofs.Common.{ap, arith}
use Rattle.org_store.specs.Sections.{section_len}
use Rattle.org_store.proofs.KeptLemmas.{section_fits}
use Rattle.org_store.proofs.read.read_in.Goals as goal

pub set-requires-clause-size_fits : goal.set-requires-clause-size_fits
set-requires-clause-size_fits g c =
    omega (arith, section_fits (g.T.Text.content c.args.context.now.text.now) c.args.sections.now c.args.place c.requires.sections_of_text c.requires.within, ap section_len c.in_ok-section.ensures.value, c.len-len.ensures.fits)
