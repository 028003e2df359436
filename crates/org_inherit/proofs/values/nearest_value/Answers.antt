use Rattle.std.proofs.Common.{◌≡◌, ◌+◌, ◌≤◌, Some, None, length, ap, sym, ◌∙◌, arith}
use Rattle.org_base.specs.Properties.{value_in}
use Rattle.org_outline.specs.Places.{behind}
use Rattle.org_outline.specs.Levels.{levels}
use Rattle.org_outline.specs.Tree.{up_from}
use Rattle.org_outline.proofs.Parents.{behind_parent}
use Rattle.org_inherit.specs.Values.{first_of, own_value}
use Rattle.org_inherit.proofs.LineageLemmas.{value_here, value_above}
use Rattle.org_inherit.proofs.values.nearest_value.Goals as goal

pub loop-next-smaller : goal.loop-next-smaller
loop-next-smaller c =
    let p = behind_parent (levels c.args.outline.now) c.in-Some.place in
    let a : behind c.parent-next.result ≤ c.in-Some.place = rw c.parent-next.ensures.value p in
    let b : behind c.loop-next.next ≡ c.in-Some.place + 1 = ap behind c.in-Some.is in
    omega arith

pub loop-next-preserved : goal.loop-next-preserved
loop-next-preserved c =
    let es = c.args.outline.now in
    let n = c.args.name.now in
    let p = c.in-Some.place in
    let b : behind (Some p) ≤ length es = rw c.in-Some.is at c.loop-next.invariant.within in
    let q = behind_parent (levels es) p in
    let a : behind c.parent-next.result ≤ p = rw c.parent-next.ensures.value q in
    let h : own_value es n p ≡ None = value_here es n p c.entry.result.now (omega arith) ∙ ap (λ e. value_in e.details.drawer n) (sym c.entry.ensures.value) ∙ sym c.in_default-property.ensures.value in
    record {
      within = omega arith;
      rest = ap (λ v. first_of (own_value es n) (up_from (levels es) v)) c.parent-next.ensures.value ∙ sym (value_above es n p h)
          ∙ ap (λ v. first_of (own_value es n) (up_from (levels es) v)) (sym c.in-Some.is) ∙ c.loop-next.invariant.rest;
    }
