use Rattle.std.specs.Char.{is_ascii_digit}
use Rattle.std.proofs.Common.{◌≡◌, ◌+◌, ◌*◌, ◌^◌, ◌≤◌, true, drop, length}
use Rattle.std.specs.List.{list_all}
use Rattle.org_expression.specs.Decimal.{read_on}
use Rattle.org_expression.proofs.decimal.read_whole.Given as goal

abbrev pub invariant-loop-digit : goal.invariant-loop-digit
invariant-loop-digit l = record {
  digits : list_all is_ascii_digit (drop l.digit-index l.digits) ≡ true;
  bound : (l.n + 1) * 10 ^ length (drop l.digit-index l.digits) ≤ 10 ^ 18;
  told : read_on l.n (drop l.digit-index l.digits) ≡ read_on 0 l.digits;
}
