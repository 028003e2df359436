-- The words so far and those after the open one are all.
use Rattle.std.proofs.Common.{◌≡◌, ◌≤◌, ◌-◌, ◌++◌, [], take, drop}
use Rattle.org_wire.specs.Stream.{words_from}
use Rattle.org_wire.proofs.word_list.words_of.Given as goal

abbrev pub invariant-loop-i : goal.invariant-loop-i
invariant-loop-i l = record {
  order : l.start ≤ l.i;
  all : l.words ++ words_from l.gap (take (l.i - l.start) (drop l.start l.text)) (drop l.i l.text) ≡ words_from l.gap [] l.text;
}
