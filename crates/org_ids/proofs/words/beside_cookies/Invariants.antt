-- What is written, and what is left, the first bytes of it still of a cookie.
use Rattle.std.proofs.Common.{◌≡◌, ◌++◌, drop}
use Rattle.org_ids.specs.Words.{beside_cookies}
use Rattle.org_ids.proofs.words.beside_cookies.Given as goal

abbrev pub invariant-loop-place : goal.invariant-loop-place
invariant-loop-place l = l.out.items ++ beside_cookies l.left (drop l.place l.title) ≡ beside_cookies 0 l.title
