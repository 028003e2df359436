-- Open tasks by their keywords.
use Rattle.std.specs.Prelude.{ℕ, Bool, not, ◌||◌, nat_lt, if◌then◌else◌, List, [], ◌∷◌, ◌++◌, filter, fold, length, unwrap_or, bytes_eq}
use Rattle.std.specs.List.{list_any}
use Rattle.org_agenda.specs.declared.row.Row.{Row}
use Rattle.org_client.specs.Headings.{by_place}
use Rattle.org_entry.specs.Keyword.{keyword_in}
use Rattle.org_entry.specs.declared.entry.Entry.{Entry}
use Rattle.org_head.specs.declared.head.Head.{Head}
use Rattle.org_inherit.specs.Scope.{Scope}
use Rattle.org_overview.specs.declared.tasks.TheConstants.{MOST_KEYWORDS}

-- the keyword of a heading; empty where it has none
abbrev pub own_keyword : Scope → ℕ → Entry → Head → List ℕ
own_keyword scope i e head = unwrap_or (keyword_in e.text head) []

-- that of a row's heading
abbrev pub keyword_at : List Scope → Row → List ℕ
keyword_at scopes row = by_place [] own_keyword scopes row.file row.heading

abbrev pub has_word : List (List ℕ) → List ℕ → Bool
has_word names word = list_any (bytes_eq word) names

-- a word after others, unless it is one of them or they are as many as there may be
abbrev pub adds_word : List (List ℕ) → List ℕ → List (List ℕ)
adds_word names word = if has_word names word || not (nat_lt (length names) MOST_KEYWORDS) then names else names ++ word ∷ []

-- the first keywords of rows, each once, in the order in which they come
abbrev pub names_of : List Scope → List Row → List (List ℕ)
names_of scopes rows = fold (λ names row. adds_word names (keyword_at scopes row)) [] rows

-- the rows of a keyword, and those of no named one, in their order
abbrev pub rows_with : List Scope → List ℕ → List Row → List Row
rows_with scopes word rows = filter (λ row. bytes_eq (keyword_at scopes row) word) rows

abbrev pub rows_beside : List Scope → List (List ℕ) → List Row → List Row
rows_beside scopes names rows = filter (λ row. not (has_word names (keyword_at scopes row))) rows
