use Rattle.std.proofs.Common.{List, ◌++◌, ap, ◌∙◌, encode_utf8_all}
use Rattle.org_page.specs.Pieces.{page_text, titles_of}
use Rattle.org_page.specs.Whole.{page_titles}
use Rattle.org_page.specs.declared.piece.Piece.{Piece}
use Rattle.org_page.proofs.page.html.Goals as goal

pub returns : goal.returns
returns c =
    let text = c.in_ok-text.ensures ∙ ap (λ (t : List Piece). encode_utf8_all (page_text t)) c.as_slice.ensures.value in
    let titles = c.in_ok-put_page.ensures.titles ∙ ap (λ (t : List Piece). titles_of t ++ page_titles c.args.page.now) c.new-draft.ensures in
    record { titles = (c.put_page.new.draft.pieces.items, (text, titles)) }
