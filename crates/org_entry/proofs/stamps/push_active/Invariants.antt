-- The stamps so far, and those that are left, are all.
use Rattle.std.proofs.Common.{◌≡◌, ◌++◌}
use Rattle.std.specs.List.{AllByRecursion, flat_map}
use Rattle.org_entry.specs.Entry.{if_active, active_at}
use Rattle.org_stamp.specs.Line.{IsLongestAt}
use Rattle.org_entry.proofs.stamps.push_active.Given as goal

abbrev pub invariant-loop-found : goal.invariant-loop-found
invariant-loop-found l =
    (goal.iterator-loop-found).can_next l.found-iterator ×
    (goal.iterator-loop-found).is_finite l.found-iterator ×
    record {
      inside : AllByRecursion (IsLongestAt l.bytes) l.found-iterator;
      all : l.stamps ++ flat_map (if_active l.at) l.found-iterator ≡ l.fn.stamps ++ active_at l.at l.bytes;
    }
