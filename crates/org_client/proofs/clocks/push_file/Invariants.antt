-- Those so far, with those of the entries that are left.
use Rattle.std.proofs.Common.{◌≡◌, ◌++◌, drop}
use Rattle.org_client.specs.Clocks.{file_rows, rows_from}
use Rattle.org_client.proofs.clocks.push_file.Given as goal

abbrev pub invariant-loop-heading : goal.invariant-loop-heading
invariant-loop-heading l =
    l.rows.items ++ rows_from (l.period.first, l.period.last) l.file l.heading (drop l.heading l.outline)
    ≡ l.fn.rows.items ++ file_rows (l.period.first, l.period.last) l.file l.outline
