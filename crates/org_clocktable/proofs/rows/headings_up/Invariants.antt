-- The rows from a heading on, or none from the end on.
use Rattle.std.proofs.Common.{◌≡◌, drop, reverse}
use Rattle.org_clocktable.specs.Clocked.{IsHeadingOrEnd}
use Rattle.org_clocktable.proofs.TableWords.{rows_from}
use Rattle.org_clocktable.proofs.rows.headings_up.Given as goal

abbrev pub invariant-loop-place : goal.invariant-loop-place
invariant-loop-place l = record {
  rows : reverse l.rows.items ≡ rows_from l.running.days l.most l.file.place l.file.counted.now l.below (drop l.below l.file.counted.now.entries);
  stop : IsHeadingOrEnd l.file.counted.now.entries l.below;
}

abbrev pub decreases-loop-place : goal.decreases-loop-place
decreases-loop-place l = l.below
