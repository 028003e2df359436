use Rattle.std.proofs.Common.{sym, ◌∙◌, arith}
use Rattle.std.proofs.lemmas.List.FromFn.{map-range_with_len_more}
use Rattle.org_project.specs.Blocked.{waits_in}
use Rattle.org_project.proofs.blocked.waiting.Goals as goal

pub loop-i-preserved : goal.loop-i-preserved
loop-i-preserved c =
    c.in_ok-push.ensures.items
    ∙ (rw (c.loop-i.invariant, c.waits.ensures.value) (sym (map-range_with_len_more (waits_in c.args.outline.now c.args.tasks.now) 0 c.loop-i.i c.loop-i.i (omega arith))))
