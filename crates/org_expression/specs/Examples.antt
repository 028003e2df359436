-- Worked examples: what the definitions say of inputs at which a wrong rule says something else.
use Rattle.std.specs.Prelude.{◌≡◌, [], true, false, is_some, nat_lt, codes}
use Rattle.org_expression.specs.Decimal.{number}
use Rattle.org_expression.specs.Times.{front_minute}

-- a negative number is less than 0, and a property has the time of the stamp at its front, whatever follows (Org manual
-- 9.6, "Matching tags and properties"; profile)
pub record ExamplesHold : Type 0 where
  pub less : nat_lt (number true (codes "1") []) (number false (codes "0") []) ≡ true
  pub text_follows : is_some (front_minute (codes "<2024-02-28 Wed 10:30> and more")) ≡ true
