-- The part so far, or what stands behind a slash that is left.
use Rattle.std.proofs.Common.{◌≡◌, drop}
use Rattle.org_client.specs.HeadingNames.{last_part, part_behind}
use Rattle.org_client.proofs.heading_names.last_part.Given as goal

abbrev pub invariant-loop-place : goal.invariant-loop-place
invariant-loop-place l = part_behind l.part (drop l.place l.path) ≡ last_part l.path
