use Rattle.std.proofs.Common.{◌<◌, ◌∙◌, ap, arith, length}
use Rattle.org_store.specs.File.{unread}
use Rattle.org_engine.specs.Files.{files_of}
use Rattle.org_engine.proofs.FilesLemmas.{length-files_of}
use Rattle.org_engine.proofs.MarkLemmas.{marks_there}
use Rattle.org_engine.proofs.world.World.pending_at.Goals as goal

pub index-requires : goal.index-requires
index-requires g c =
    let entries = c.self.inside.files.entries in
    let within : c.args.place < length (files_of entries) = rw (← c.self.view_is) at c.requires.within in
    omega (arith, within, length-files_of entries)

pub returns : goal.returns
returns g c = record {
  value = rw (← c.self.view_is) (c.pending.ensures.value ∙ ap unread (marks_there c.self.inside.files.entries c.args.place _ c.index.ensures));
}
