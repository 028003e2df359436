-- A page that is being put together: what is put into it, and which titles.
use Rattle.std.specs.Prelude.{◌≡◌, ℕ, ◌++◌, List, [], ◌∷◌, Result, IfOk, OnOk, Vec, chars, decimal}
use Rattle.std.specs.List.{flat_map}
use Rattle.org_page.specs.Characters.{part_text}
use Rattle.org_page.specs.Pieces.{attributes_text, page_text, piece_text, title_of, titles_of}
use Rattle.org_page.specs.Values.{duration_bytes, time_bytes, value_bytes}
use Rattle.org_page.specs.declared.character.Part.TheVariants.{Name, Words}
use Rattle.org_page.specs.declared.draft.Draft.{Draft}
use Rattle.org_page.specs.declared.draft.Given.{Given}
use Rattle.org_page.specs.declared.draft.Lent.{Lent}
use Rattle.org_page.specs.declared.draft.Lent.TheVariants.{Tag, With, Pair, Open, Text, Number, Time, Duration}
use Rattle.org_page.specs.declared.draft.Value.TheVariants.{Plain}
use Rattle.org_page.specs.declared.piece.Attribute.{Attribute}
use Rattle.org_page.specs.declared.piece.Piece.{Piece}

-- these characters after those of a page, unless memory is refused
abbrev pub Puts : {T E : Type 0} → Result T E → Draft → Draft → List ℕ → Type 0
Puts result old new text = OnOk result (page_text new.pieces.items ≡ page_text old.pieces.items ++ text)

-- these titles with their links after those of a page, unless memory is refused
abbrev pub AddsTitles : {T E : Type 0} → Result T E → Draft → Draft → List (List ℕ × List ℕ) → Type 0
AddsTitles result old new titles = OnOk result (titles_of new.pieces.items ≡ titles_of old.pieces.items ++ titles)

-- no title more
abbrev pub KeepsTitles : {T E : Type 0} → Result T E → Draft → Draft → Type 0
KeepsTitles result old new = OnOk result (titles_of new.pieces.items ≡ titles_of old.pieces.items)

-- an attribute that is given, as it stands in a page
abbrev pub given_text : Given → List ℕ
given_text given =
    32 ∷ (part_text Name (chars given.name.now) ++ (61 ∷ 34 ∷ (part_text Words (chars (value_bytes given.value)) ++ 34 ∷ [])))

abbrev pub givens_text : List Given → List ℕ
givens_text givens = flat_map given_text givens

-- a tag with attributes that are given
abbrev pub given_tag_text : List ℕ → List Given → List ℕ
given_tag_text name givens = 60 ∷ (part_text Name (chars name) ++ (givens_text givens ++ 62 ∷ []))

-- a piece that is lent, as it stands in a page
abbrev pub lent_text : Lent → List ℕ
lent_text (Tag name) = given_tag_text name.now []
lent_text (With name given value) = given_tag_text name.now (record { name = given; value = Plain value } ∷ [])
lent_text (Pair name first second) = given_tag_text name.now (first ∷ second ∷ [])
lent_text (Open name givens) = given_tag_text name.now givens.now
lent_text (Text words) = part_text Words (chars words.now)
lent_text (Number number) = part_text Words (chars (decimal number))
lent_text (Time minute) = part_text Words (chars (time_bytes minute))
lent_text (Duration minutes) = part_text Words (chars (duration_bytes minutes))

abbrev pub lents_text : List Lent → List ℕ
lents_text lents = flat_map lent_text lents

-- a piece that stands so in a page and has no title, unless memory is refused
abbrev pub GivesUntitled : {E : Type 0} → Result Piece E → List ℕ → Type 0
GivesUntitled result text = IfOk result (λ piece. (piece_text piece ≡ text) × (title_of piece ≡ []))

-- attributes that stand in a page as those that are given, unless memory is refused
abbrev pub GivesAttributes : {A E : Type 0} → Result (Vec Attribute A) E → List Given → Type 0
GivesAttributes result givens = IfOk result (λ attributes. attributes_text attributes.items ≡ givens_text givens)
