use Rattle.std.proofs.Common.{◌∙◌, ap, arith, map}
use Rattle.org_class.specs.Sections.{sections}
use Rattle.org_class.proofs.SpanLemmas.{whole_text}
use Rattle.org_store.specs.Sections.{fresh_section}
use Rattle.org_store.proofs.KeptLemmas.{fresh_size}
use Rattle.org_store.proofs.classify.list_of.Goals as goal

pub of-requires : goal.of-requires
of-requires g c =
    let t = g.T.Text.content c.args.text.now in
    let whole = whole_text t c.len.result c.len.ensures.value in
    record { size_fits = omega (arith, fresh_size t c.as_slice.result.now (c.as_slice.ensures.value ∙ c.in_ok-fresh.ensures.value ∙ ap (λ xs. map fresh_section (sections xs)) whole), c.len.ensures.fits) }
