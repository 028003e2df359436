use Rattle.std.proofs.Common.{ℕ, List, Bool, ◌≡◌, ◌∷◌, ◌++◌, [], ap, ◌∙◌, string_bytes}
use Rattle.org_page.specs.Pieces.{page_text, title_text, titles_of}
use Rattle.org_page.proofs.DraftLemmas.{piece_told, titles_told}
use Rattle.org_page.proofs.draft.Draft.title.Goals as goal

pub returns : goal.returns
returns c =
    let told = c.in_ok-title.ensures in
    let old = c.args.self.now.pieces.items in
    let title = c.in_ok-title.title in
    record {
      text = piece_told _ _ _ c.in_ok-push.ensures.items
          ∙ ap (λ (d : Bool). page_text old ++ title_text d (string_bytes title.link) (string_bytes title.words)) told.done
          ∙ ap (λ (t : List ℕ). page_text old ++ title_text c.args.is_done t (string_bytes title.words)) told.link
          ∙ ap (λ (t : List ℕ). page_text old ++ title_text c.args.is_done c.args.link.now t) told.words;
      titles = titles_told _ _ _ c.in_ok-push.ensures.items
          ∙ ap (λ (t : List ℕ). titles_of old ++ ((t, string_bytes title.link) ∷ [])) told.words
          ∙ ap (λ (t : List ℕ). titles_of old ++ ((c.args.words.now, t) ∷ [])) told.link;
    }
