-- Those so far, with those of the clocks that are left.
use Rattle.std.proofs.Common.{◌≡◌, ◌++◌, drop}
use Rattle.org_client.specs.Clocks.{rows_of}
use Rattle.org_client.proofs.clocks.push_clocks.Given as goal

abbrev pub invariant-loop-number : goal.invariant-loop-number
invariant-loop-number l =
    l.rows.items ++ rows_of (l.period.first, l.period.last) l.file l.heading l.number (drop l.number l.clocks)
    ≡ l.fn.rows.items ++ rows_of (l.period.first, l.period.last) l.file l.heading 0 l.clocks
