-- None of the kinds so far is the one.
use Rattle.std.proofs.Common.{◌≡◌, drop}
use Rattle.org_check.specs.Kinds.{is_among}
use Rattle.org_check.proofs.select.holds.Given as goal

abbrev pub invariant-loop-one : goal.invariant-loop-one
invariant-loop-one l = is_among (drop l.one-index l.kinds) l.kind ≡ is_among l.kinds l.kind
