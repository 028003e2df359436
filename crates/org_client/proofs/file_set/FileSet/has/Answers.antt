use Rattle.std.proofs.Common.{◌≡◌, ◌≢◌, ◌≤◌, length, rules}
use Rattle.org_client.proofs.FileLemmas.{new_all, new_at, new_more}
use Rattle.org_client.proofs.file_set.FileSet.has.Goals as goal

pub loop-place-preserved : goal.loop-place-preserved
loop-place-preserved g c =
    let apart : c.file.result.now.path ≢ c.args.path.now = search rules in
    new_more c.args.path.now c.args.self.now.files c.loop-place.place c.file.result.now c.file.ensures.value apart c.loop-place.invariant

pub returns-then-eq-clause-none : goal.returns-then-eq-clause-none
returns-then-eq-clause-none g c = λ new.
    let same : c.file.result.now.path ≡ c.args.path.now = search rules in
    absurd (new_at c.args.path.now c.args.self.now.files c.loop-place.place c.file.result.now new c.file.ensures.value same)

pub returns-clause-some : goal.returns-clause-some
returns-clause-some g c = λ e.
    let past : length c.args.self.now.files ≤ c.loop-place.place = search rules in
    new_all c.args.path.now c.args.self.now.files c.loop-place.place past c.loop-place.invariant
