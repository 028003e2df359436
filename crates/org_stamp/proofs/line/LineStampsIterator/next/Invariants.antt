use Rattle.std.proofs.Common.{◌≡◌, ◌≤◌, ◌+◌, ◌-◌, length, drop}
use Rattle.std.specs.List.{position_or_len}
use Rattle.org_stamp.specs.Line.{stamps_from}
use Rattle.org_stamp.specs.Stamp.{is_close}
use Rattle.org_stamp.proofs.line.LineStampsIterator.next.Given as goal

abbrev pub invariant-loop-self : goal.invariant-loop-self
invariant-loop-self l = record {
  same_line : l.self-inside.line.now ≡ l.initial.self-inside.line.now;
  in_line : l.self-inside.at ≤ length l.self-inside.line.now;
  close_is : l.self-inside.at ≤ l.self-inside.close → l.self-inside.close ≡ l.self-inside.at + position_or_len is_close (drop l.self-inside.at l.self-inside.line.now);
  left : stamps_from (drop l.self-inside.at l.self-inside.line.now) l.self-inside.at 0 ≡ stamps_from (drop l.initial.self-inside.at l.initial.self-inside.line.now) l.initial.self-inside.at 0;
}

abbrev pub decreases-loop-self : goal.decreases-loop-self
decreases-loop-self l = length l.self-inside.line.now - l.self-inside.at
