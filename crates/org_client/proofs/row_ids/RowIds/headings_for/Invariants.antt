-- Those found so far, and those that are left.
use Rattle.std.proofs.Common.{◌≡◌, ◌++◌, ℕ, map}
use Rattle.std.specs.Prelude.{filter}
use Rattle.org_client.specs.RowIds.{heading_of, headings_for}
use Rattle.org_ids.specs.Letters.{stands_for}
use Rattle.org_client.proofs.row_ids.RowIds.headings_for.Given as goal

abbrev pub invariant-loop-key : goal.invariant-loop-key
invariant-loop-key l = l.found.items ++ map (λ (entry : ℕ × ℕ). heading_of entry.0) (filter (λ (entry : ℕ × ℕ). stands_for l.word entry.1) l.key-iterator) ≡ headings_for l.self l.word
