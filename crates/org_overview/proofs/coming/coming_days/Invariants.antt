-- Those so far.
use Rattle.std.proofs.Common.{◌≡◌, map}
use Rattle.std.specs.List.{range_with_len}
use Rattle.org_overview.specs.Days.{day_marks, own_marks}
use Rattle.org_overview.proofs.coming.coming_days.Given as goal

abbrev pub invariant-loop-place : goal.invariant-loop-place
invariant-loop-place g l = map day_marks l.days.items ≡ map (own_marks l.seen.files.now.files l.agenda) (range_with_len l.from l.place)
