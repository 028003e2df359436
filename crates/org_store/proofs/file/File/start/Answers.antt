-- A section begins where those before it end.
use Rattle.std.proofs.Common.{◌∙◌, sym, subst}
use Rattle.org_store.specs.File.{AreOf}
use Rattle.org_store.proofs.KeptLemmas.{size_before}
use Rattle.org_store.proofs.file.File.start.Goals as goal

pub returns : goal.returns
returns g c =
    let t = g.T.Text.content c.self.inside.text in
    let list = c.list.result.now in
    let kept : AreOf t list = subst (AreOf t) (sym c.list.ensures.value) c.self.invariant.list_is in
    rw (← c.self.view_is) record { value = c.size_before.ensures.value ∙ size_before t list c.args.place kept }
