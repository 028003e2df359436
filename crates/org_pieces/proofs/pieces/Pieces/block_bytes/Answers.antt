use Rattle.std.proofs.Common.{arith, ap, ◌∙◌, length}
use Rattle.std.specs.List.{concat, sum_by}
use Rattle.std.proofs.lemmas.List.Sums.{sum_by-cons}
use Rattle.org_pieces.specs.Span.{texts}
use Rattle.org_pieces.proofs.Contents.{texts_size}
use Rattle.org_pieces.proofs.pieces.Pieces.block_bytes.Goals as goal

-- four times the text's bytes fit
pub overflow_add-held : goal.overflow_add-held
overflow_add-held c =
    let next = ap (sum_by (λ p. length p.bytes)) c.in-Some.ensures.steps ∙ sum_by-cons (λ p. length p.bytes) c.in-Some.piece.now c.next.new.self in
    omega (arith, texts_size c.args.self.now, ap (λ ps. length (concat (texts ps))) c.self.view_is, c.self.invariant.1, c.loop-piece.invariant.1, c.block_len.ensures.dense, next)

pub returns-clause-bounded : goal.returns-clause-bounded
returns-clause-bounded c = omega (arith, texts_size c.args.self.now, c.loop-piece.invariant.1)
