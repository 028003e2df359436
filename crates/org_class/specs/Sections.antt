-- Sections of a text (Org Syntax, "Headings and Sections").
use Rattle.std.specs.List.{All}
use Rattle.std.specs.Prelude.{ℕ, ◌+◌, Bool, true, false, ◌&&◌, ◌==◌, List, [], ◌∷◌, length, ◌≡◌, ◌≤◌, map}
use Rattle.org_base.specs.Spans.{bytes_in}
use Rattle.org_base.specs.declared.span.Span.{Span}
use Rattle.org_settings.specs.Pieces.{put_before}
use Rattle.org_class.specs.Heading.{begins_heading}

-- a list, cut after each item where the test holds of the item and of what follows it
abbrev pub cut_where : {X : Type 0} → (X → List X → Bool) → List X → List (List X)
cut_where cuts [] = []
cut_where cuts (x ∷ xs) = put_before (cuts x xs) x (cut_where cuts xs)

-- the sections of a text, in order: it is cut after each line feed in front of a heading line
abbrev pub sections : List ℕ → List (List ℕ)
sections = cut_where (λ b bs. (b == 10) && begins_heading bs)

-- the text is empty or ends with a line feed
abbrev pub ends_line : List ℕ → Bool
ends_line [] = true
ends_line (b ∷ []) = b == 10
ends_line (b ∷ c ∷ bs) = ends_line (c ∷ bs)

-- a ++ b may be cut between a and b: a heading line begins there, or one of them is empty
abbrev pub is_cut : List ℕ → List ℕ → Bool
is_cut [] b = true
is_cut (x ∷ a) [] = true
is_cut (x ∷ a) (y ∷ b) = ends_line (x ∷ a) && begins_heading (y ∷ b)

-- whether the first of the lines is a heading line
abbrev pub is_headed : List (List ℕ) → Bool
is_headed [] = false
is_headed (l ∷ ls) = begins_heading l

-- the longest runs of lines in which no line but the first is a heading line
abbrev pub runs : List (List ℕ) → List (List (List ℕ))
runs = cut_where (λ l ls. is_headed ls)

-- where texts stand that follow one another, the first at a place
abbrev pub spans_from : ℕ → List (List ℕ) → List Span
spans_from at [] = []
spans_from at (t ∷ ts) = record { at = at; len = length t } ∷ spans_from (at + length t) ts

-- these parts of a text are its sections
abbrev pub AreSections : List ℕ → List Span → Type 0
AreSections text spans = map (bytes_in text) spans ≡ sections text

-- parts lie within a text
abbrev pub AreInside : List ℕ → List Span → Type 0
AreInside text spans = All (λ s. s.at + s.len ≤ length text) spans
