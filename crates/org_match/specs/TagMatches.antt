-- Which terms ask of a heading's tags, and what they find (Org manual 9.6, "Matching tags and properties").
use Rattle.std.specs.Prelude.{ℕ, Bool, true, false, ◌||◌, List, [], ◌∷◌, map, bytes_eq, encode_utf8_all}
use Rattle.std.specs.List.{list_any}
use Rattle.org_expression.specs.Grammar.{Term, Tag, Found, Compare, Item, item}
use Rattle.org_match.specs.Patterns.{found}

-- a tag and a pattern of a tag do
abbrev pub asks_tags : Term → Bool
asks_tags (Tag name) = true
asks_tags (Found pattern) = true
asks_tags (Compare name op v) = false

-- the item's term asks of tags
abbrev pub item_asks_tags : Item → Bool
item_asks_tags (item link sign term) = asks_tags term

-- one of the items does
abbrev pub ask_tags : List Item → Bool
ask_tags items = list_any item_asks_tags items

-- what a term asks of a tag; a comparison asks nothing
abbrev pub term_meets : Term → List ℕ → Bool
term_meets (Tag name) tag = bytes_eq (encode_utf8_all name) tag
term_meets (Found pattern) tag = found pattern tag
term_meets (Compare name op v) tag = false

-- the tag is what the item's term asks for
abbrev pub meets : Item → List ℕ → Bool
meets (item link sign term) tag = term_meets term tag

-- for each item whether one of the tags meets it
abbrev pub tag_matches : List (List ℕ) → List Item → List Bool
tag_matches tags items = map (λ i. list_any (meets i) tags) items

-- matches, each together with the one before it where there is one
abbrev pub either : List Bool → List Bool → List Bool
either before [] = []
either [] (v ∷ vs) = v ∷ either [] vs
either (b ∷ before) (v ∷ vs) = (b || v) ∷ either before vs

-- for each item whether one of the tags meets it, or the match before says so
abbrev pub matches_with : List Bool → List (List ℕ) → List Item → List Bool
matches_with before tags items = either before (tag_matches tags items)
