use Rattle.std.proofs.Common.{◌≡◌, ◌<◌, ◌∙◌, ap, sym, arith, length, true≢false}
use Rattle.std.specs.Prelude.{List, Some, slice_get, ℕ}
use Rattle.std.specs.Option.{option_map}
use Rattle.org_engine.specs.Files.{files_of, file_of}
use Rattle.org_engine.proofs.FilesLemmas.{length-files_of, get-files_of}
use Rattle.org_engine.proofs.world.World.file_at.Goals as goal

pub unreachable-requires : goal.unreachable-requires
unreachable-requires g c =
    let entries = c.self.inside.files.entries in
    let within : c.args.place < length (files_of entries) = rw (← c.self.view_is) at c.requires in
    let some : c.args.place < length entries = omega (arith, length-files_of entries) in
    true≢false (sym (c.in-None.ensures.found.1 some))

pub returns : goal.returns
returns g c = record {
  value = λ file is.
      let entries = c.self.inside.files.entries in
      let there : slice_get (files_of entries) c.args.place ≡ Some file = rw (← c.self.view_is) at is in
      let same : Some (file_of (c.in-Some.name.now, c.in-Some.file.now)) ≡ Some file = ap (option_map file_of) c.in-Some.ensures.entry ∙ sym (get-files_of entries c.args.place) ∙ there in
      let file_is : file_of (c.in-Some.name.now, c.in-Some.file.now) ≡ file = cc in
      sym file_is ∙ ap (λ (name : List ℕ). record (file_of (c.in-Some.name.now, c.in-Some.file.now)) { name = name }) (sym c.as_str.ensures.value);
}
