use Rattle.std.proofs.Common.{◌≡◌, ◌++◌, ◌∷◌, [], ◌+◌, ◌≤◌, Some, reverse, length, ap, sym, append_assoc, append-nil, take, ◌∙◌, arith}
use Rattle.std.proofs.lemmas.List.{take_all, drop_all, reverse-append}
use Rattle.org_outline.specs.Levels.{levels}
use Rattle.org_outline.specs.Places.{behind}
use Rattle.org_outline.specs.Tree.{ancestors, up_from}
use Rattle.org_outline.proofs.Chain.{ancestors_step}
use Rattle.org_outline.proofs.Parents.{behind_parent}
use Rattle.org_inherit.proofs.tags.lineage.Goals as goal

pub loop-next-smaller : goal.loop-next-smaller
loop-next-smaller c =
    let p = behind_parent (levels c.args.outline.now) c.in-Some.source in
    let a : behind c.parent-next.result ≤ c.in-Some.source = rw c.parent-next.ensures.value p in
    let b : behind c.loop-next.next ≡ c.in-Some.source + 1 = ap behind c.in-Some.is in
    omega arith

pub loop-next-preserved : goal.loop-next-preserved
loop-next-preserved c =
    let es = c.args.outline.now in
    let ls = levels es in
    let j = c.in-Some.source in
    let line = c.loop-next.line.items in
    let b : behind (Some j) ≤ length es = rw c.in-Some.is at c.loop-next.invariant.within in
    let q = behind_parent ls j in
    let a : behind c.parent-next.result ≤ j = rw c.parent-next.ensures.value q in
    record {
      within = omega arith;
      rest = ap (λ v. v ++ up_from ls c.parent-next.result) c.in_ok-push.ensures.ok
          ∙ append_assoc line (j ∷ []) (up_from ls c.parent-next.result)
          ∙ ap (λ v. line ++ j ∷ up_from ls v) c.parent-next.ensures.value
          ∙ ap (λ v. line ++ j ∷ v) (sym (ancestors_step ls j))
          ∙ ap (λ v. line ++ up_from ls v) (sym c.in-Some.is)
          ∙ c.loop-next.invariant.rest;
    }

pub returns : goal.returns
returns c =
    record {
      value =
          let ls = levels c.args.outline.now in
          let i = c.args.place in
          let items = c.loop-next.line.items in
          let n = c.reverse.ensures.len in
          let m = ap length c.deref_mut.ensures.value in
          let done : items ≡ up_from ls (Some i) =
          sym (append-nil items) ∙ ap (λ v. items ++ up_from ls v) (sym c.in_default.is) ∙ c.loop-next.invariant.rest in
          ap (λ v. take (length items) (c.reverse.new.self ++ v)) (drop_all (length c.reverse.new.self) items (omega arith))
          ∙ ap (take (length items)) (append-nil c.reverse.new.self)
          ∙ take_all (length items) c.reverse.new.self (omega arith)
          ∙ c.reverse.ensures.after
          ∙ ap reverse (c.deref_mut.ensures.value ∙ done)
          ∙ reverse-append (i ∷ []) (ancestors ls i);
    }
