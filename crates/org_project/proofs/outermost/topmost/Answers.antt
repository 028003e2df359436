use Rattle.std.proofs.Common.{◌≡◌, ◌∙◌, sym, ap, arith, false, not, ◌&&◌}
use Rattle.std.proofs.lemmas.List.FromFn.{map-range_with_len_more}
use Rattle.org_project.proofs.WaitLemmas.{flag_table}
use Rattle.org_project.specs.Topmost.{flag_at, is_first, is_topmost, is_under}
use Rattle.org_project.proofs.outermost.topmost.Goals as goal

pub loop-i-preserved : goal.loop-i-preserved
loop-i-preserved c =
    let es = c.args.outline.now in
    let kind = c.args.of_kind.now in
    let known = flag_table (is_under es kind) _ _ c.loop-i.i c.in_ok-under.ensures.value (omega arith) in
    let is : c.is_first.result ≡ is_topmost es kind c.loop-i.i = c.is_first.ensures.value ∙ (rw c.as_slice.ensures.value (ap (λ b. flag_at kind c.loop-i.i && not b) known)) in
    c.in_ok-push.ensures.items ∙ (rw (c.loop-i.invariant, is) (sym (map-range_with_len_more (is_topmost es kind) 0 c.loop-i.i c.loop-i.i (omega arith))))
