-- What is written, and the letters that are left.
use Rattle.std.proofs.Common.{◌≡◌, ◌++◌, ◌-◌, map}
use Rattle.std.specs.List.{range_with_len}
use Rattle.org_ids.specs.Letters.{id_of, letter_at}
use Rattle.org_ids.proofs.letters.push_id.Given as goal

abbrev pub invariant-loop-place : goal.invariant-loop-place
invariant-loop-place l = l.out.items ++ map (letter_at l.sum) (range_with_len l.place (l.count - l.place)) ≡ l.fn.out.items ++ id_of l.count l.sum
