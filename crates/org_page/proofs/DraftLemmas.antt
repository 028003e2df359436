-- A piece more: what it writes, and which title it has.
use Rattle.std.proofs.Common.{◌≡◌, ℕ, Bool, List, [], ◌∷◌, ◌++◌, sym, ap, ◌∙◌, chars}
use Rattle.std.specs.List.{flat_map}
use Rattle.std.specs.String.{string_bytes}
use Rattle.std.proofs.lemmas.List.{append-nil}
use Rattle.std.proofs.lemmas.List.Concat.{flat_map-append}
use Rattle.org_page.specs.Characters.{part_text}
use Rattle.org_page.specs.Drafts.{given_tag_text, givens_text}
use Rattle.org_page.specs.Pieces.{attributes_text, page_text, piece_text, tag_text, title_of, title_text, titles_of}
use Rattle.org_page.specs.declared.character.Part.TheVariants.{Name, Words}
use Rattle.org_page.specs.declared.piece.Piece.{Piece}

pub piece_told : (old new : List Piece) (piece : Piece) → new ≡ old ++ piece ∷ [] → page_text new ≡ page_text old ++ piece_text piece
piece_told old new piece e = ap page_text e ∙ flat_map-append piece_text old (piece ∷ []) ∙ ap (λ t. page_text old ++ t) (append-nil (piece_text piece))

pub titles_told : (old new : List Piece) (piece : Piece) → new ≡ old ++ piece ∷ [] → titles_of new ≡ titles_of old ++ title_of piece
titles_told old new piece e = ap titles_of e ∙ flat_map-append title_of old (piece ∷ []) ∙ ap (λ t. titles_of old ++ t) (append-nil (title_of piece))

pub untitled_told : (old new : List Piece) (piece : Piece) → title_of piece ≡ [] → new ≡ old ++ piece ∷ [] → titles_of new ≡ titles_of old
untitled_told old new piece none e = titles_told old new piece e ∙ ap (λ t. titles_of old ++ t) none ∙ append-nil (titles_of old)
