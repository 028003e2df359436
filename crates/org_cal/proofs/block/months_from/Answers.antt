use Rattle.std.proofs.Common.{arith, rules, ◌+◌, ◌-◌}
use Rattle.org_cal.proofs.AscendLemmas.{months_ordered}
use Rattle.org_cal.proofs.block.months_from.Goals as goal

pub invariant_of-result : goal.invariant_of-result
invariant_of-result c =
    let ordered = months_ordered c.args.index (c.args.index + c.args.count - 1) 31 (omega arith) (omega arith) (omega arith) (omega arith) in
    record { ordered = search rules }
