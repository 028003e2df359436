use Rattle.std.proofs.Common.{◌≡◌, map}
use Rattle.std.specs.List.{range_with_len}
use Rattle.org_project.specs.Topmost.{both_at}
use Rattle.org_project.proofs.entry_flags.both.Given as goal

abbrev pub invariant-loop-place : goal.invariant-loop-place
invariant-loop-place l = l.all.items ≡ map (both_at l.one l.other) (range_with_len 0 l.place)
