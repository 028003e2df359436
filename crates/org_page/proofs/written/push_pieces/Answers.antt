use Rattle.std.proofs.Common.{◌≡◌, ◌∷◌, ◌+◌, ◌++◌, ◌∙◌, ap, sym, drop, encode_utf8_all}
use Rattle.std.specs.String.{string_bytes}
use Rattle.org_page.specs.Pieces.{page_text, piece_text}
use Rattle.org_page.proofs.WrittenLemmas.{drop_item, more_told}
use Rattle.org_page.proofs.written.push_pieces.Goals as goal

pub loop-piece-preserved : goal.loop-piece-preserved
loop-piece-preserved c =
    let i = c.loop-piece.piece-index in
    let pieces = c.args.pieces.now in
    let piece = c.piece-item.result in
    let cut : drop i pieces ≡ piece ∷ drop (i + 1) pieces = drop_item pieces i piece c.loop-piece-test.true c.piece-item.is in
    more_told _ _ (piece_text piece) _ _ c.in_ok-push_piece.ensures
    (ap (λ t. string_bytes c.loop-piece.out ++ encode_utf8_all (page_text t)) (sym cut) ∙ c.loop-piece.invariant)
