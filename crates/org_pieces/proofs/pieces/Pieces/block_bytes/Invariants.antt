use Rattle.std.proofs.Common.{◌≡◌, ◌+◌, ◌*◌, ◌≤◌, length}
use Rattle.std.specs.List.{sum_by}
use Rattle.org_pieces.proofs.pieces.Pieces.block_bytes.Given as goal

abbrev pub invariant-loop-piece : goal.invariant-loop-piece
invariant-loop-piece l =
    (l.held + sum_by (λ p. p.block) l.piece-iterator ≡ sum_by (λ p. p.block) l.self)
    × (l.held + 4 * sum_by (λ p. length p.bytes) l.piece-iterator ≤ 4 * sum_by (λ p. length p.bytes) l.self)
