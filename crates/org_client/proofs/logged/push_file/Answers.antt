-- A file that isn't there has no rows.
use Rattle.std.proofs.Common.{◌≤◌, ◌∙◌, ◌++◌, append-nil, ap, length, rules, sym}
use Rattle.std.proofs.lemmas.Option.{slice_get_past}
use Rattle.org_client.specs.LogRows.{rows_if_there}
use Rattle.org_client.proofs.logged.push_file.Goals as goal

pub returns-then-of-count-clause-ok : goal.returns-then-of-count-clause-ok
returns-then-of-count-clause-ok g c =
    let files = c.args.file_set.now.files in
    let of = c.args.of.now in
    let rows = c.args.rows.now.items in
    let past : length files ≤ of.file = search rules in
    sym (append-nil rows)
    ∙ ap (λ xs. rows ++ xs) (sym (ap (rows_if_there of.asked.now of.file of.inherit.now) (slice_get_past files of.file past)))
