use Rattle.std.proofs.Common.{◌∙◌, length, ap, sym, subst, arith}
use Rattle.org_store.specs.CachedOutline.{Fits, Shows, Stands}
use Rattle.org_store.proofs.ShownLemmas.{splice_one}
use Rattle.org_store.proofs.CachedOutlineLemmas.{length_set, stands_fit}
use Rattle.org_store.proofs.sections.Sections.set.Goals as goal

pub put-requires-clause-fits : goal.put-requires-clause-fits
put-requires-clause-fits c =
    let list = c.self.inside.list in
    let s = c.in-Some.cached in
    let h : Stands s.stale list s.outline = subst (λ x. Shows x list) (sym c.take.ensures.value ∙ c.in-Some.is) c.self.invariant in
    let within = ap length c.self.view_is in
    let same = ap length (c.in_ok-set.ensures.ok ∙ splice_one list c.args.place c.args.section (omega (arith, c.requires.within, within))) ∙ length_set c.args.place c.args.section list in
    subst (λ n. Fits s.stale n (length s.outline)) (sym (c.len-count.ensures.value ∙ same)) (stands_fit s.stale list s.outline h)
