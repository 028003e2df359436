-- What a reader finds in a page, whatever the texts in it are.
use Rattle.std.specs.Prelude.{◌≡◌, ◌≢◌, ℕ, ◌++◌, false, Bool, List, [], ◌∷◌, All, chars, map}
use Rattle.std.specs.List.{flat_map}
use Rattle.std.specs.String.{string_bytes}
use Rattle.org_page.specs.Characters.{is_left_out, part_text, shown_char}
use Rattle.org_page.specs.Pieces.{page_text, title_begin, title_end, title_middle, title_text}
use Rattle.org_page.specs.Reader.{Letter, Said, Marked, Valued, marks, read, values, words}
use Rattle.org_page.specs.declared.character.Part.TheVariants.{Name, Words}
use Rattle.org_page.specs.declared.piece.Attribute.{Attribute}
use Rattle.org_page.specs.declared.piece.Piece.{Piece}
use Rattle.org_page.specs.declared.piece.Piece.TheVariants.{Tag, Content, Titled}

-- the characters of a text as they are shown
abbrev pub shown : List ℕ → List ℕ
shown text = map shown_char (chars text)

-- what is meant by an attribute, a tag, a title and a piece: which characters are marks, which values, and which words
abbrev pub meant_attribute : Attribute → List Letter
meant_attribute attribute =
    map Marked (32 ∷ (part_text Name (chars attribute.name.now) ++ (61 ∷ 34 ∷ []))) ++ (map Valued (shown (string_bytes attribute.value)) ++ Marked 34 ∷ [])

abbrev pub meant_tag : List ℕ → List Attribute → List Letter
meant_tag name attributes =
    map Marked (60 ∷ part_text Name (chars name)) ++ (flat_map meant_attribute attributes ++ Marked 62 ∷ [])

abbrev pub meant_title : Bool → List ℕ → List ℕ → List Letter
meant_title is_done link title =
    map Marked title_begin ++ (map Valued (shown link) ++ (map Marked (title_middle is_done) ++ (map Said (shown title) ++ map Marked (title_end is_done))))

abbrev pub meant : Piece → List Letter
meant (Tag name attributes) = meant_tag name.now attributes.items
meant (Content words) = map Said (shown (string_bytes words))
meant (Titled title) = meant_title title.is_done (string_bytes title.link) (string_bytes title.words)

-- a page is read as it is meant, character by character
abbrev pub PagesReadBack : Type 0
PagesReadBack = (pieces : List Piece) → read (page_text pieces) ≡ flat_map meant pieces

-- the tags of a piece with the names of their attributes, without any text
abbrev pub attribute_frame : Attribute → List ℕ
attribute_frame attribute = 32 ∷ (part_text Name (chars attribute.name.now) ++ (61 ∷ 34 ∷ 34 ∷ []))

abbrev pub frame : Piece → List ℕ
frame (Tag name attributes) = 60 ∷ (part_text Name (chars name.now) ++ (flat_map attribute_frame attributes.items ++ 62 ∷ []))
frame (Content words) = []
frame (Titled title) = title_begin ++ (title_middle title.is_done ++ title_end title.is_done)

-- the tags of a page are those of its pieces: no text makes a tag or an attribute
abbrev pub NoTextMakesMarkup : Type 0
NoTextMakesMarkup = (pieces : List Piece) → marks (read (page_text pieces)) ≡ flat_map frame pieces

-- the words between the tags of a title are the title, and the value in them is its link, character by character
abbrev pub TitlesReadBack : Type 0
TitlesReadBack = (is_done : Bool) (link title : List ℕ) →
    (words (read (title_text is_done link title)) ≡ shown title) × (values (read (title_text is_done link title)) ≡ shown link)

-- no character of a text stands as one that means something but in names of the page's own
abbrev pub IsHarmless : ℕ → Type 0
IsHarmless c = (c ≢ 60) × (c ≢ 62) × (c ≢ 34) × (c ≢ 39)

abbrev pub TextsAreHarmless : Type 0
TextsAreHarmless = (text : List ℕ) → All IsHarmless (part_text Words text)

-- what is a character of a page is shown as it is
abbrev pub CharactersStand : Type 0
CharactersStand = (c : ℕ) → is_left_out c ≡ false → shown_char c ≡ c
