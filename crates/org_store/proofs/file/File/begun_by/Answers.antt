-- A section begins with the line, or the line stands inside one, or after the last.
use Rattle.std.proofs.Common.{◌≡◌, ◌+◌, ◌≤◌, length, ap, sym, subst, arith}
use Rattle.std.specs.List.{sum_by}
use Rattle.std.proofs.lemmas.List.{length-map}
use Rattle.org_store.specs.File.{AreOf}
use Rattle.org_store.specs.Sections.{is_read, line_count}
use Rattle.org_store.proofs.BegunLemmas.{begins, none_begins, none_behind}
use Rattle.org_store.proofs.file.File.begun_by.Goals as goal

pub returns-then-before-from-clause-none : goal.returns-then-before-from-clause-none
returns-then-before-from-clause-none g c =
    let t = g.T.Text.content c.self.inside.text in
    let list = c.list.result.now in
    let kept : AreOf t list = subst (AreOf t) (sym c.list.ensures.value) c.self.invariant.list_is in
    let is : c.args.line ≡ c.in_ok-before.before + 1 = omega (arith, c.in_ok-before.ensures) in
    let past : sum_by line_count list ≤ c.in_ok-before.before = omega (arith, c.lines.ensures.value, c.from.ensures, c.if-before-from.true) in
    rw (← c.self.view_is) (λ _. none_behind t list c.args.line c.in_ok-before.before kept is past)

pub returns-then-before-from-2-clause-some : goal.returns-then-before-from-2-clause-some
returns-then-before-from-2-clause-some g c =
    let t = g.T.Text.content c.self.inside.text in
    let list = c.list-2.result.now in
    let kept : AreOf t list = subst (AreOf t) (sym c.list-2.ensures.value) c.self.invariant.list_is in
    let is : c.args.line ≡ c.in_ok-before.before + 1 = omega (arith, c.in_ok-before.ensures) in
    rw (← c.self.view_is) (begins t list c.args.line c.in_ok-before.before c.find_line-place.result.0 c.find_line-place.result.1 kept is c.find_line-place.ensures.value (omega (arith, c.from-2.ensures, c.if-before-from-2.true)))

pub returns-then-before-from-2-clause-within : goal.returns-then-before-from-2-clause-within
returns-then-before-from-2-clause-within g c =
    let inside = c.find_line-place.ensures.value.within in
    rw (← c.self.view_is) (omega (arith, inside, ap length c.list-2.ensures.value, length-map c.self.inside.sections is_read))

pub returns-else-before-from-2-clause-none : goal.returns-else-before-from-2-clause-none
returns-else-before-from-2-clause-none g c =
    let t = g.T.Text.content c.self.inside.text in
    let list = c.list-2.result.now in
    let kept : AreOf t list = subst (AreOf t) (sym c.list-2.ensures.value) c.self.invariant.list_is in
    let is : c.args.line ≡ c.in_ok-before.before + 1 = omega (arith, c.in_ok-before.ensures) in
    rw (← c.self.view_is) (λ _. none_begins t list c.args.line c.in_ok-before.before c.find_line-place.result.0 c.find_line-place.result.1 kept is c.find_line-place.ensures.value (λ e. omega (arith, e, c.from-2.ensures, c.if-before-from-2.false)))
