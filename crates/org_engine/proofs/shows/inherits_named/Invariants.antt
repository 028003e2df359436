-- Those of the files so far, and of those that are left, are all; the texts of those so far are short.
use Rattle.std.proofs.Common.{◌≡◌, ◌++◌, ◌<◌, ◌≤◌, ℕ, drop, length, map}
use Rattle.std.specs.Prelude.{Some, slice_get}
use Rattle.std.specs.Option.{option_map}
use Rattle.org_store.specs.Outline.{scope_of}
use Rattle.org_text.specs.Replace.{max_bytes}
use Rattle.org_engine.specs.Outlines.{scopes_of}
use Rattle.org_engine.specs.Views.{scopes_named}
use Rattle.org_engine.specs.World.{FileView}
use Rattle.org_engine.proofs.shows.inherits_named.Given as goal

abbrev pub invariant-loop-place : goal.invariant-loop-place
invariant-loop-place g l = record {
  named : l.inherits ++ scopes_named (option_map (λ file. file.now) l.file) (map (λ (f : FileView). scope_of l.world.world.inherited f.name f.text) (drop l.place l.world.world.files))
      ≡ scopes_named (option_map (λ file. file.now) l.file) (scopes_of l.world.world);
  short : (i : ℕ) (f : FileView) → i < l.place → slice_get l.world.world.files i ≡ Some f → length f.text ≤ max_bytes;
}
