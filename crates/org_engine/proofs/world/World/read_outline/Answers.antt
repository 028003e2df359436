use Rattle.std.proofs.Common.{◌≡◌, ◌∙◌, ◌<◌, ap, arith, length, sym}
use Rattle.std.specs.Prelude.{Some, slice_get}
use Rattle.indexmap.specs.Layout.{length-set_value_at}
use Rattle.org_store.specs.File.{FileView as KeptFile, unread}
use Rattle.org_engine.specs.Files.{files_of, marks_of}
use Rattle.org_engine.proofs.FilesLemmas.{length-files_of}
use Rattle.org_engine.proofs.MarkLemmas.{file_at, files_of-same, marks_of-read, marks_there, set-same, where_err, where_ok}
use Rattle.org_engine.proofs.world.World.read_outline.Goals as goal

pub index_mut-file-requires : goal.index_mut-file-requires
index_mut-file-requires g c =
    let entries = c.self.inside.files.entries in
    let within : c.args.place < length (files_of entries) = rw (← c.self.view_is) at c.requires in
    omega (arith, within, length-files_of entries)

pub invariant_of-self : goal.invariant_of-self
invariant_of-self g c = omega (arith, length-set_value_at c.self.inside.files.entries c.args.place c.read_outline.new.file, c.self.invariant)

pub returns-clause-value : goal.returns-clause-value
returns-clause-value g c = λ file is.
    let entries = c.self.inside.files.entries in
    let there : slice_get (files_of entries) c.args.place ≡ Some file = rw (← c.self.view_is) at is in
    let text = file_at entries c.args.place _ file c.index_mut-file.ensures.value there in
    rw text at c.read_outline.ensures.value

pub returns-clause-ok : goal.returns-clause-ok
returns-clause-ok g c =
    let entries = c.self.inside.files.entries in
    let place = c.args.place in
    let new = c.read_outline.new.file in
    let at = c.index_mut-file.ensures.value in
    where_ok c.read_outline.result (λ is. rw (← c.self.view_is) (λ i. record {
      world = record {
        files = files_of-same entries place _ new at (ap (λ (v : KeptFile). v.text) is) (ap (λ (v : KeptFile). v.serial) is) i;
        moment = c.self.inside.moment;
        inherited = c.self.inside.inherited;
        profile = c.self.inside.profile;
      };
      marks = marks_of-read entries place _ new at (ap (λ (v : KeptFile). v.marks) is) i;
    })) c.read_outline.ensures.ok

pub returns-clause-err : goal.returns-clause-err
returns-clause-err g c =
    let entries = c.self.inside.files.entries in
    let place = c.args.place in
    let new = c.read_outline.new.file in
    let at = c.index_mut-file.ensures.value in
    where_err c.read_outline.result (λ is.
    let same = set-same entries place new (at ∙ ap Some (sym is)) in
    rw (← c.self.view_is) (λ i. record {
      world = record { files = files_of (same i); moment = c.self.inside.moment; inherited = c.self.inside.inherited; profile = c.self.inside.profile };
      marks = marks_of (same i);
    })) c.read_outline.ensures.err

pub returns-clause-counts : goal.returns-clause-counts
returns-clause-counts g c =
    let own = ap unread (marks_there c.self.inside.files.entries c.args.place _ c.index_mut-file.ensures.value) in
    rw (← c.self.view_is, ← own) c.read_outline.ensures.counts

pub returns-clause-partial : goal.returns-clause-partial
returns-clause-partial g c =
    let own = ap unread (marks_there c.self.inside.files.entries c.args.place _ c.index_mut-file.ensures.value) in
    rw (← c.self.view_is, ← own) c.read_outline.ensures.partial
