-- The opening line lies in the text.
use Rattle.std.proofs.Common.{arith}
use Rattle.org_act.proofs.clock_step.begin_at.Goals as goal

pub overflow_add-opening : goal.overflow_add-opening
overflow_add-opening c = let within = rw c.in-InDrawer.is at c.requires.place in omega (arith, within, c.requires.section.within, c.requires.section.fits)
