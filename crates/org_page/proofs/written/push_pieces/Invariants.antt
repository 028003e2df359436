use Rattle.std.proofs.Common.{◌≡◌, ◌++◌, drop, encode_utf8_all, string_bytes}
use Rattle.org_page.specs.Pieces.{page_text}
use Rattle.org_page.proofs.written.push_pieces.Given as goal

abbrev pub invariant-loop-piece : goal.invariant-loop-piece
invariant-loop-piece l = string_bytes l.out ++ encode_utf8_all (page_text (drop l.piece-index l.pieces)) ≡ string_bytes l.fn.out ++ encode_utf8_all (page_text l.pieces)
