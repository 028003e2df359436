use Rattle.std.proofs.Common.{◌∙◌, arith}
use Rattle.org_store.proofs.TouchedLemmas.{both_fit}
use Rattle.org_store.proofs.touched.changed_list.Goals as goal

pub replace-requires-clause-size_fits : goal.replace-requires-clause-size_fits
replace-requires-clause-size_fits g c =
    omega (arith, both_fit (g.T.Text.content c.args.old.now.text.now) (g.T.Text.content c.args.new.now) c.args.old.now.list.now c.in_ok-list.list c.as_slice.result.now c.touched_sections-touched.result.part c.requires.sections_of_text c.in_ok-list.ensures.value (c.as_slice.ensures.value ∙ c.in_ok-fresh.ensures.value) c.touched_sections-touched.ensures.inside, c.len-old.ensures.fits, c.len-new.ensures.fits)
