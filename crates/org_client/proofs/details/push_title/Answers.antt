use Rattle.std.proofs.Common.{◌<◌, ◌≤◌, length, rules}
use Rattle.org_client.proofs.AbsentLemmas.{kept_bare, kept_past}
use Rattle.org_client.proofs.details.push_title.Goals as goal

pub returns-then-place-count : goal.returns-then-place-count
returns-then-place-count c =
    let past : length c.args.outline.now ≤ c.args.place = search rules in
    record { ok = kept_past c.args.outline.now c.args.place c.args.titles.now past }

pub returns-in-None : goal.returns-in-None
returns-in-None c =
    let within : c.args.place < length c.args.outline.now = search rules in
    record { ok = kept_bare c.args.outline.now c.args.place c.entry-entry.result.now c.args.titles.now within c.entry-entry.ensures.value c.in-None.is }
