use Rattle.std.proofs.Common.{subst, sym}
use Rattle.org_stamp.proofs.LawLemmas.{stamps_of_line}
use Rattle.org_stamp.specs.Line.{AreStampsOf}
use Rattle.org_stamp.proofs.line.stamps_in.Goals as goal

pub returns-clause-stamps : goal.returns-clause-stamps
returns-clause-stamps c =
    let line = c.args.line.now in
    subst (AreStampsOf line) (sym c.first_place.ensures.left) (stamps_of_line line)
