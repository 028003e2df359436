use Rattle.std.proofs.Common.{◌≡◌, bytes_eq, drop}
use Rattle.std.specs.List.{list_any}
use Rattle.org_agenda.proofs.filter.is_among.Given as goal

abbrev pub invariant-loop-place : goal.invariant-loop-place
invariant-loop-place l = list_any (bytes_eq l.keyword) (drop l.place l.words) ≡ list_any (bytes_eq l.keyword) l.words
