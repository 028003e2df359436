-- What is said so far, and the marks of the places that are left, are all; the next closing bracket is known.
use Rattle.std.proofs.Common.{◌≡◌, ◌++◌, ◌+◌, ◌-◌, ◌≤◌, map, length, drop}
use Rattle.std.specs.List.{position_or_len}
use Rattle.org_stamp.specs.Stamp.{is_close}
use Rattle.org_check.specs.Marks.{mark_at}
use Rattle.org_check.specs.Said.{said}
use Rattle.org_check.specs.UnreadStamps.{unread_from, unread_in}
use Rattle.org_check.specs.declared.look.Look.TheVariants.{Stamp}
use Rattle.org_check.proofs.stamps.push_looks.Given as goal

abbrev pub invariant-loop-from : goal.invariant-loop-from
invariant-loop-from l = record {
  within : l.from ≤ length l.line;
  close_is : l.from ≤ l.close → l.close ≡ l.from + position_or_len is_close (drop l.from l.line);
  all : said l.found ++ map (mark_at Stamp l.here.at) (unread_from (drop l.from l.line) l.from) ≡ said l.fn.found ++ map (mark_at Stamp l.here.at) (unread_in l.line);
}

abbrev pub decreases-loop-from : goal.decreases-loop-from
decreases-loop-from l = length l.line - l.from
