-- Searches among places (profile).
use Rattle.std.specs.Prelude.{ℕ, zero, suc, ◌+◌, Bool, if◌then◌else◌, Option, Some, None}

-- the greatest number below n that passes the test
abbrev pub greatest_below : (ℕ → Bool) → ℕ → Option ℕ
greatest_below p zero = None
greatest_below p (suc n) = if p n then Some n else greatest_below p n

-- the least of the n numbers from a on that passes the test; a + n where none does
abbrev pub least_from : (ℕ → Bool) → ℕ → ℕ → ℕ
least_from p a zero = a
least_from p a (suc n) = if p a then a else least_from p (suc a) n

-- how many places there are up to a place, with it; 0 where there is none
abbrev pub behind : Option ℕ → ℕ
behind None = 0
behind (Some k) = k + 1
