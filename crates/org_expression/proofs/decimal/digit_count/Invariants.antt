use Rattle.std.proofs.Common.{◌≡◌, ◌+◌, drop, length}
use Rattle.org_expression.specs.Decimal.{front_digits}
use Rattle.org_expression.proofs.decimal.digit_count.Given as goal

abbrev pub invariant-loop-byte : goal.invariant-loop-byte
invariant-loop-byte l = record {
  count : l.count ≡ l.byte-index;
  told : l.count + length (front_digits (drop l.byte-index l.text)) ≡ length (front_digits l.text);
}
