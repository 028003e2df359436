-- The names that are left decide.
use Rattle.std.proofs.Common.{◌≡◌, drop}
use Rattle.std.specs.List.{list_any}
use Rattle.org_base.specs.Words.{same_word}
use Rattle.org_inherit.proofs.values.is_inherited.Given as goal

abbrev pub invariant-loop-place : goal.invariant-loop-place
invariant-loop-place l = list_any (same_word l.name) (drop l.place l.names) ≡ list_any (same_word l.name) l.names
