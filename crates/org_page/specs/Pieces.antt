-- The pieces of a page, and what is written of them, as characters.
use Rattle.std.specs.Prelude.{ℕ, ◌++◌, Bool, if◌then◌else◌, List, [], ◌∷◌, chars, codes}
use Rattle.std.specs.List.{flat_map}
use Rattle.std.specs.String.{string_bytes}
use Rattle.org_page.specs.Characters.{part_text}
use Rattle.org_page.specs.declared.character.Part.TheVariants.{Name, Words}
use Rattle.org_page.specs.declared.piece.Attribute.{Attribute}
use Rattle.org_page.specs.declared.piece.Piece.{Piece}
use Rattle.org_page.specs.declared.piece.Piece.TheVariants.{Tag, Content, Titled}

-- an attribute: its name, and its value between quotation marks
abbrev pub attribute_text : Attribute → List ℕ
attribute_text attribute =
    32 ∷ (part_text Name (chars attribute.name.now) ++ (61 ∷ 34 ∷ (part_text Words (chars (string_bytes attribute.value)) ++ 34 ∷ [])))

abbrev pub attributes_text : List Attribute → List ℕ
attributes_text attributes = flat_map attribute_text attributes

-- a tag with its attributes
abbrev pub tag_text : List ℕ → List Attribute → List ℕ
tag_text name attributes = 60 ∷ (part_text Name (chars name) ++ (attributes_text attributes ++ 62 ∷ []))

-- what stands around the address and the words of a title; one that is done is struck out
abbrev pub title_begin : List ℕ
title_begin = codes "<a href=\""

abbrev pub title_middle : Bool → List ℕ
title_middle is_done = if is_done then codes "\"><bdi><s>" else codes "\"><bdi>"

abbrev pub title_end : Bool → List ℕ
title_end is_done = if is_done then codes "</s></bdi></a>" else codes "</bdi></a>"

-- a title, between tags of its own, as a link
abbrev pub title_text : Bool → List ℕ → List ℕ → List ℕ
title_text is_done link title =
    title_begin ++ (part_text Words (chars link) ++ (title_middle is_done ++ (part_text Words (chars title) ++ title_end is_done)))

abbrev pub piece_text : Piece → List ℕ
piece_text (Tag name attributes) = tag_text name.now attributes.items
piece_text (Content words) = part_text Words (chars (string_bytes words))
piece_text (Titled title) = title_text title.is_done (string_bytes title.link) (string_bytes title.words)

-- the characters of a page
abbrev pub page_text : List Piece → List ℕ
page_text pieces = flat_map piece_text pieces

-- the titles among pieces with their links, in order
abbrev pub title_of : Piece → List (List ℕ × List ℕ)
title_of (Tag name attributes) = []
title_of (Content words) = []
title_of (Titled title) = (string_bytes title.words, string_bytes title.link) ∷ []

abbrev pub titles_of : List Piece → List (List ℕ × List ℕ)
titles_of pieces = flat_map title_of pieces
