use Rattle.std.proofs.Common.{rules}
use Rattle.org_stamp_index.proofs.AlikeLemmas.{alike_more}
use Rattle.org_stamp_index.proofs.alike.are_alike.Goals as goal

pub loop-place-preserved : goal.loop-place-preserved
loop-place-preserved c =
    alike_more c.args.profile c.args.stamps.now c.args.others.now c.loop-place.place c.index-stamps-place.result c.index-others-place.result
    (search rules) (search rules) c.index-stamps-place.is c.index-others-place.is c.loop-place.invariant (search rules)
