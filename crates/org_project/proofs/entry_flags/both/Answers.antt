use Rattle.std.proofs.Common.{sym, ◌∙◌, arith}
use Rattle.std.proofs.lemmas.List.FromFn.{map-range_with_len_more}
use Rattle.org_project.specs.Topmost.{both_at}
use Rattle.org_project.proofs.entry_flags.both.Goals as goal

pub loop-place-preserved : goal.loop-place-preserved
loop-place-preserved c =
    c.in_ok-push.ensures.items
    ∙ (rw (c.loop-place.invariant, c.both_at.ensures.value) (sym (map-range_with_len_more (both_at c.args.one.now c.args.other.now) 0 c.loop-place.place c.loop-place.place (omega arith))))
