use Rattle.std.proofs.Common.{sym, ◌∙◌, arith}
use Rattle.std.proofs.lemmas.List.FromFn.{map-range_with_len_more}
use Rattle.org_project.specs.Topmost.{is_under}
use Rattle.org_project.proofs.outermost.under_kind.Goals as goal

pub loop-i-preserved : goal.loop-i-preserved
loop-i-preserved c =
    c.in_ok-push.ensures.items
    ∙ (rw (c.loop-i.invariant, c.is_under.ensures.value) (sym (map-range_with_len_more (is_under c.args.outline.now c.args.of_kind.now) 0 c.loop-i.i c.loop-i.i (omega arith))))
