use Rattle.std.proofs.Common.{◌≡◌, ◌+◌, ◌*◌, ◌≤◌, take}
use Rattle.orgls_text.specs.Positions.{cursor_behind}
use Rattle.orgls_text.proofs.cursor.cursor_on.Given as goal

abbrev pub invariant-loop-byte : goal.invariant-loop-byte
invariant-loop-byte l = record {
  line : l.here.position.line ≤ l.fn.cursor.position.line + l.byte-index;
  character : l.here.position.character ≤ l.fn.cursor.position.character + 2 * l.byte-index;
  behind : l.here ≡ cursor_behind l.encoding l.fn.cursor (take l.byte-index l.bytes);
}
