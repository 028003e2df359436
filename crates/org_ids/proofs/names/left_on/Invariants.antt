-- All so far have lower levels, and there ends the last of them.
use Rattle.std.proofs.Common.{◌≡◌, ◌+◌, drop}
use Rattle.org_ids.specs.Names.{left_end, lower_count}
use Rattle.org_ids.proofs.names.left_on.Given as goal

abbrev pub invariant-loop-place : goal.invariant-loop-place
invariant-loop-place l = record {
  count : l.place + lower_count l.level (drop l.place l.above) ≡ lower_count l.level l.above;
  end : left_end l.level l.end (drop l.place l.above) ≡ left_end l.level l.base l.above;
}
