use Rattle.std.proofs.Common.{◌≡◌, ℕ, ◌||◌}
use Rattle.org_index.specs.DaySet.{stands_in}
use Rattle.org_index.proofs.KeyLemmas.{has_id}
use Rattle.org_index.proofs.day_set.gather_all.Given as goal

abbrev pub invariant-loop-id : goal.invariant-loop-id
invariant-loop-id l = (i : ℕ) → (has_id l.found.items i || stands_in i l.id-iterator) ≡ (has_id l.fn.found.items i || stands_in i l.initial.id-iterator)
