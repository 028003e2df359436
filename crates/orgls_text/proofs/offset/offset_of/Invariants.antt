use Rattle.std.proofs.Common.{◌≡◌, ◌*◌, ◌≤◌, drop}
use Rattle.orgls_text.specs.Positions.{last_within, offset_of}
use Rattle.orgls_text.proofs.OffsetLemmas.{counted_from}
use Rattle.orgls_text.proofs.offset.offset_of.Given as goal

-- the last place of all is the last one from here on, or the one so far
abbrev pub invariant-loop-at : goal.invariant-loop-at
invariant-loop-at l = record {
  line : l.cursor.position.line ≤ l.at;
  character : l.cursor.position.character ≤ 2 * l.at;
  within : l.offset ≤ l.at;
  last : offset_of l.encoding l.text l.position ≡ counted_from l.at l.offset (last_within l.encoding l.position l.cursor (drop l.at l.text));
}
