-- Tags of headings (Org manual 9.6, "Tag Inheritance"; that of equal ones the first stays: profile).
-- Characters by their codes: 58 :.
use Rattle.std.specs.Option.{option_map_or}
use Rattle.std.specs.Prelude.{ℕ, ◌==◌, if◌then◌else◌, List, [], ◌∷◌, ◌++◌, Option, None, Some, map, length, get_or, fold, reverse, bytes_eq}
use Rattle.std.specs.List.{list_any, flat_map}
use Rattle.org_entry.specs.declared.entry.Entry.{Entry}
use Rattle.org_base.specs.Spans.{bytes_in}
use Rattle.org_base.specs.declared.span.Span.{Span}
use Rattle.org_inherit.specs.Scope.{Scope}
use Rattle.org_outline.specs.Levels.{levels}
use Rattle.org_outline.specs.Tree.{ancestors}

-- an entry's own tags: those that its heading line names, in order and each as often as it is named
abbrev pub own_tags : Entry → List (List ℕ)
own_tags e = option_map_or (λ head. map (bytes_in e.text) head.tags) e.head []

-- the own tags of the entry at a place: those that its heading line names, in order and each as often as it is named
abbrev pub own_tags_at : List Entry → ℕ → List (List ℕ)
own_tags_at es j = get_or (map (λ (e : Entry). option_map_or (λ head. map (bytes_in e.text) head.tags) e.head []) es) j []

-- the ancestors from the outermost, then the entry
abbrev pub lineage : List Entry → ℕ → List ℕ
lineage es i = reverse (ancestors (levels es) i) ++ i ∷ []

-- tags with one more at the end, unless it is there
abbrev pub with_tag : List (List ℕ) → List ℕ → List (List ℕ)
with_tag tags tag = if list_any (bytes_eq tag) tags then tags else tags ++ tag ∷ []

-- tags with more at the end, each unless it is there
abbrev pub with_tags : List (List ℕ) → List (List ℕ) → List (List ℕ)
with_tags tags more = fold with_tag tags more

-- tags without those that stood before
abbrev pub firsts : List (List ℕ) → List (List ℕ)
firsts tags = with_tags [] tags

-- the tags in parts of a text
abbrev pub tags_in : List ℕ → List Span → List (List ℕ)
tags_in text spans = map (bytes_in text) spans

-- a file's tags, the ancestors' own tags from the outermost, and the own tags of the entry at a place; of equal ones the
-- first stays
abbrev pub tags_at : List (List ℕ) → List Entry → ℕ → List (List ℕ)
tags_at file_tags es i = with_tags [] (file_tags ++ flat_map (own_tags_at es) (lineage es i))

-- all tags of the entry at a place: the file's, the ancestors' own from the outermost, and its own; of equal ones the first stays
abbrev pub all_tags : Scope → ℕ → List (List ℕ)
all_tags scope i = fold with_tag [] (scope.settings.file_tags ++ flat_map (own_tags_at scope.entries) (lineage scope.entries i))

-- each tag with a colon after it
abbrev pub closed_tags : List (List ℕ) → List ℕ
closed_tags [] = []
closed_tags (tag ∷ tags) = tag ++ (58 ∷ []) ++ closed_tags tags

-- `:a:b:`, or nothing for no tags
abbrev pub tags_text : List (List ℕ) → List ℕ
tags_text tags = if length tags == 0 then [] else 58 ∷ closed_tags tags

-- the text of tags with one more
abbrev pub with_shown : List ℕ → List ℕ → List ℕ
with_shown text tag = (if length text == 0 then 58 ∷ [] else text) ++ tag ++ (58 ∷ [])

-- tags as `:a:b:`, if there are any
abbrev pub tags_value : List (List ℕ) → Option (List ℕ)
tags_value tags = if length tags == 0 then None else Some (tags_text tags)
