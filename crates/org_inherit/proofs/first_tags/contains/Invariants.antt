-- The tags that are left decide.
use Rattle.std.proofs.Common.{◌≡◌, drop}
use Rattle.std.specs.Prelude.{bytes_eq}
use Rattle.std.specs.List.{list_any}
use Rattle.org_inherit.proofs.first_tags.contains.Given as goal

abbrev pub invariant-loop-place : goal.invariant-loop-place
invariant-loop-place l = list_any (bytes_eq l.tag) (drop l.place l.tags) ≡ list_any (bytes_eq l.tag) l.tags
