-- A section begins after the lines of those before it, and a text has no more lines than bytes.
use Rattle.std.proofs.Common.{◌+◌, ◌∙◌, arith, ap, sym, subst}
use Rattle.std.proofs.lemmas.List.Sums.{sum_by-take-le}
use Rattle.std.specs.List.{sum_by}
use Rattle.org_store.specs.File.{AreOf}
use Rattle.org_store.specs.Sections.{line_count, section_len}
use Rattle.org_store.proofs.BegunLemmas.{lines_until}
use Rattle.org_store.proofs.KeptLemmas.{size_of}
use Rattle.org_store.proofs.file.File.line.Goals as goal

pub overflow_add-result : goal.overflow_add-result
overflow_add-result g c =
    let t = g.T.Text.content c.self.inside.text in
    let list = c.list-2.result.now in
    let kept : AreOf t list = subst (AreOf t) (sym c.list-2.ensures.value) c.self.invariant.list_is in
    let same = c.list.ensures.value ∙ sym c.list-2.ensures.value in
    omega (arith, sum_by-take-le line_count list c.args.place, size_of t list kept, c.lines_before.ensures.value, ap (sum_by line_count) same, ap (sum_by section_len) same, c.lines-lines.ensures.covered, c.lines-lines.ensures.value, c.len-bytes.ensures.fits)

pub returns : goal.returns
returns g c =
    let t = g.T.Text.content c.self.inside.text in
    let list = c.list-2.result.now in
    let kept : AreOf t list = subst (AreOf t) (sym c.list-2.ensures.value) c.self.invariant.list_is in
    rw (← c.self.view_is) record { value = ap (λ n. n + 1) (c.lines_before.ensures.value ∙ lines_until t list c.args.place kept) }
