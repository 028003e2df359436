use Rattle.std.proofs.Common.{◌≡◌, ℕ, ◌+◌, ◌≤◌, Option, Some, length, false, map, get_or, ap, sym, ◌∙◌, arith}
use Rattle.std.specs.List.{list_any}
use Rattle.org_outline.specs.Places.{behind}
use Rattle.org_outline.specs.Levels.{levels}
use Rattle.org_outline.specs.Tree.{up_from}
use Rattle.org_outline.proofs.Parents.{behind_parent}
use Rattle.org_inherit.specs.Tables.{passes}
use Rattle.org_inherit.proofs.LineageLemmas.{passes_above}
use Rattle.org_inherit.proofs.ancestors.lineage_passes.Goals as goal

pub loop-next-smaller : goal.loop-next-smaller
loop-next-smaller c =
    let p = behind_parent (levels c.args.outline.now) c.in-Some.place in
    let a : behind c.parent-next.result ≤ c.in-Some.place = rw c.parent-next.ensures.value p in
    let b : behind c.loop-next.next ≡ c.in-Some.place + 1 = ap behind c.in-Some.is in
    omega arith

pub loop-next-preserved : goal.loop-next-preserved
loop-next-preserved c =
    let es = c.args.outline.now in
    let test = passes c.args.test in
    let one = λ (next : Option ℕ). list_any (λ j. get_or (map test es) j false) (up_from (levels es) next) in
    let p = c.in-Some.place in
    let b : behind (Some p) ≤ length es = rw c.in-Some.is at c.loop-next.invariant.within in
    let q = behind_parent (levels es) p in
    let a : behind c.parent-next.result ≤ p = rw c.parent-next.ensures.value q in
    let fails : test (get_or es p c.entry.result.now) ≡ false = ap test (sym c.entry.ensures.value) ∙ sym c.passes.ensures.value ∙ c.if-passes.false in
    record {
      within = omega arith;
      rest = ap one c.parent-next.ensures.value ∙ sym (passes_above test es p c.entry.result.now (omega arith) fails) ∙ ap one (sym c.in-Some.is) ∙ c.loop-next.invariant.rest;
    }
