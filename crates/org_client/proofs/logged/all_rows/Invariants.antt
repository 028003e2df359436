-- Those so far, with those of the files that are left.
use Rattle.std.proofs.Common.{◌≡◌, ◌++◌, drop}
use Rattle.org_client.specs.LogRows.{files_log}
use Rattle.org_client.proofs.logged.all_rows.Given as goal

abbrev pub invariant-loop-file : goal.invariant-loop-file
invariant-loop-file g l =
    l.rows.items ++ files_log l.asked l.file_set.files l.file (drop l.file l.inherits) ≡ files_log l.asked l.file_set.files 0 l.inherits
