use Rattle.std.proofs.Common.{◌≡◌, map}
use Rattle.std.specs.List.{range_with_len}
use Rattle.org_project.specs.Topmost.{either_at}
use Rattle.org_project.proofs.entry_flags.either.Given as goal

abbrev pub invariant-loop-place : goal.invariant-loop-place
invariant-loop-place l = l.all.items ≡ map (either_at l.one l.other) (range_with_len 0 l.place)
