use Rattle.std.proofs.Common.{◌≡◌, ◌+◌, ◌-◌, ◌*◌, ◌^◌, ◌≤◌}
use Rattle.org_expression.specs.Decimal.{read_decimals}
use Rattle.org_expression.proofs.decimal.read_decimals.Given as goal

abbrev pub invariant-loop-place : goal.invariant-loop-place
invariant-loop-place l = record {
  bound : (l.n + 1) * 10 ^ (9 - l.place) ≤ 10 ^ 27;
  told : read_decimals l.n (9 - l.place) l.rest ≡ read_decimals l.whole 9 l.fraction;
}
