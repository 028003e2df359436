-- What is written, and what the stamps that are left leave.
use Rattle.std.proofs.Common.{◌≡◌, ◌++◌}
use Rattle.std.specs.List.{AllByRecursion}
use Rattle.org_client.specs.TitleWords.{beside_stamps}
use Rattle.org_stamp.specs.Line.{IsLongestAt, stamps_of}
use Rattle.org_client.proofs.titles.beside_stamps.Given as goal

abbrev pub invariant-loop-found : goal.invariant-loop-found
invariant-loop-found l =
    (goal.iterator-loop-found).can_next l.found-iterator ×
    (goal.iterator-loop-found).is_finite l.found-iterator ×
    record {
      inside : AllByRecursion (IsLongestAt l.title) l.found-iterator;
      all : l.out.items ++ beside_stamps l.title l.from l.found-iterator ≡ beside_stamps l.title 0 (stamps_of l.title);
    }
