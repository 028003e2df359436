use Rattle.std.proofs.Common.{◌∙◌, arith}
use Rattle.org_store.proofs.KeptLemmas.{read_size}
use Rattle.org_store.proofs.read.all_read.Goals as goal

pub of-requires : goal.of-requires
of-requires g c = record { size_fits = omega (arith, read_size (g.T.Text.content c.args.context.now.text.now) c.args.context.now.settings.now c.as_slice.result.now (c.as_slice.ensures.value ∙ c.in_ok-read.ensures.value), c.len-len.ensures.fits) }
