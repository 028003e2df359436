use Rattle.std.proofs.Common.{◌≡◌, sym, ◌∙◌, arith}
use Rattle.std.proofs.lemmas.List.FromFn.{map-range_with_len_more}
use Rattle.org_outline.proofs.ByPlace.{levels_length, table_length, table_at}
use Rattle.org_outline.specs.Levels.{levels}
use Rattle.org_outline.specs.Tree.{end_of}
use Rattle.org_sum.proofs.Ranges.{end_in}
use Rattle.org_project.proofs.BelowLemmas.{none_in}
use Rattle.org_project.specs.Below.{is_stuck}
use Rattle.org_project.proofs.below.stuck.Goals as goal

pub index-requires : goal.index-requires
index-requires c =
    let l = table_length _ _ _ c.in_ok-ends.ensures.value in
    omega (arith, l, levels_length c.args.outline.now)

pub index-requires-in-loop-i : goal.index-requires-in-loop-i
index-requires-in-loop-i c =
    let es = c.args.outline.now in
    let l = table_length _ _ _ c.in_ok-before.ensures.value in
    let e = end_in es c.loop-i.i (omega arith) in
    let is : c.index.result.now ≡ end_of (levels es) c.loop-i.i = c.index.ensures ∙ table_at _ _ _ c.loop-i.i c.index.result.now c.in_ok-ends.ensures.value (omega (arith, levels_length es)) in
    omega (arith, l, e.1, is)

pub index-requires-in-loop-i-2 : goal.index-requires-in-loop-i-2
index-requires-in-loop-i-2 c =
    let l = table_length _ _ _ c.in_ok-before.ensures.value in
    omega (arith, l)

pub loop-i-preserved : goal.loop-i-preserved
loop-i-preserved c =
    let es = c.args.outline.now in
    let e = end_in es c.loop-i.i (omega arith) in
    let is : c.index.result.now ≡ end_of (levels es) c.loop-i.i = c.index.ensures ∙ table_at _ _ _ c.loop-i.i c.index.result.now c.in_ok-ends.ensures.value (omega (arith, levels_length es)) in
    let a = c.index-in-loop-i.ensures ∙ table_at _ _ _ c.index.result.now c.index-in-loop-i.result.now c.in_ok-before.ensures.value (omega (arith, e.1, is)) in
    let b = c.index-in-loop-i-2.ensures ∙ table_at _ _ _ c.loop-i.i c.index-in-loop-i-2.result.now c.in_ok-before.ensures.value (omega arith) in
    let s = none_in es c.args.moving.now c.loop-i.i c.index.result.now c.index-in-loop-i.result.now c.index-in-loop-i-2.result.now (omega arith) is a b in
    c.in_ok-push.ensures.items ∙ (rw (c.loop-i.invariant, s) (sym (map-range_with_len_more (is_stuck es c.args.moving.now) 0 c.loop-i.i c.loop-i.i (omega arith))))
