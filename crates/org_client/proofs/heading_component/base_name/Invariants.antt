-- What is left decides.
use Rattle.std.proofs.Common.{◌≡◌, drop}
use Rattle.org_client.specs.Components.{base_name, name_behind}
use Rattle.org_client.proofs.heading_component.base_name.Given as goal

abbrev pub invariant-loop-place : goal.invariant-loop-place
invariant-loop-place l = name_behind l.name (drop l.place l.path) ≡ base_name l.path
