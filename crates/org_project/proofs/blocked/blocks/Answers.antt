use Rattle.std.proofs.Common.{◌≡◌, ◌∙◌, refl, sym, arith}
use Rattle.std.proofs.lemmas.List.FromFn.{map-range_with_len_more}
use Rattle.org_project.proofs.WaitLemmas.{count_table, flag_table}
use Rattle.org_project.specs.Below.{below}
use Rattle.org_project.specs.Blocked.{block_in, waits_in}
use Rattle.org_project.proofs.blocked.blocks.Goals as goal

pub loop-i-preserved : goal.loop-i-preserved
loop-i-preserved c =
    let es = c.args.outline.now in
    let tasks = c.args.tasks.now in
    let b = count_table (below es tasks.undone.now) _ _ c.loop-i.i c.in_ok-below.ensures.value (omega arith) in
    let w = flag_table (waits_in es tasks) _ _ c.loop-i.i c.in_ok-waiting.ensures.value (omega arith) in
    let is : c.block_at.result ≡ block_in es tasks c.loop-i.i = c.block_at.ensures.value ∙ (rw (c.as_slice.ensures.value, c.as_slice-in-loop-i.ensures.value, b, w) refl) in
    c.in_ok-push.ensures.items ∙ (rw (c.loop-i.invariant, is) (sym (map-range_with_len_more (block_in es tasks) 0 c.loop-i.i c.loop-i.i (omega arith))))
