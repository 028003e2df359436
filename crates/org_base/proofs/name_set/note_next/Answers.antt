use Rattle.std.proofs.Common.{map, Some, length}
use Rattle.std.proofs.lemmas.Result.{on_ok_weaker}
use Rattle.org_base.specs.Found.{AreFound}
use Rattle.org_base.proofs.NameLemmas.{found_more, count_of}
use Rattle.org_base.proofs.name_set.note_next.Goals as goal

pub returns-in-Some-clause-ok : goal.returns-in-Some-clause-ok
returns-in-Some-clause-ok c =
    let names = c.args.names.now in
    let found : AreFound (Some c.in-Some.places.entries) (map (λ v. v.items) names) = rw c.in-Some.is at c.requires.found in
    on_ok_weaker c.note.result (λ more. found_more c.in-Some.places.entries c.note.new.places.entries (map (λ v. v.items) names) c.args.name.now (length names) (count_of names) found more) c.note.ensures.ok

pub returns-clause-ok : goal.returns-clause-ok
returns-clause-ok c =
    let names = c.args.names.now in
    found_more c.in_ok-all.all.entries c.note-2.new.places.entries (map (λ v. v.items) names) c.args.name.now (length names) (count_of names) c.in_ok-all.ensures.value c.in_ok-note.ensures.ok
