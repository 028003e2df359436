use Rattle.std.proofs.Common.{◌≤◌, length, rules}
use Rattle.org_client.proofs.AbsentLemmas.{kept_members, no_file}
use Rattle.org_client.proofs.row_members.put_file.Goals as goal

pub returns-then-file-count : goal.returns-then-file-count
returns-then-file-count g c =
    let files = c.args.files.now.files in
    let past : length files ≤ c.args.file = search rules in
    record { ok = kept_members c.args.to.now _ (no_file c.args.to.now.only files c.args.file past) }
