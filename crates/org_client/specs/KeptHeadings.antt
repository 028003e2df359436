-- The words of titles, and what planning lines say, that are kept while rows are shown (profile).
use Rattle.std.specs.Prelude.{◌≡◌, ℕ, List, [], Option, Some, slice_get}
use Rattle.std.specs.Option.{option_and_then}
use Rattle.std.specs.List.{All}
use Rattle.org_base.specs.Spans.{bytes_in}
use Rattle.org_client.specs.Headings.{by_place}
use Rattle.org_client.specs.TitleWords.{title_words}
use Rattle.org_client.specs.declared.kept_headings.KeptHeading.{KeptHeading}
use Rattle.org_drawer.specs.declared.planning.Planning.{Planning}
use Rattle.org_entry.specs.Planning.{entry_planning}
use Rattle.org_entry.specs.declared.entry.Entry.{Entry}
use Rattle.org_head.specs.declared.head.Head.{Head}
use Rattle.org_inherit.specs.Headings.{IsFoundIn}
use Rattle.org_inherit.specs.Scope.{Scope}
use Rattle.org_inherit.specs.declared.headings.Heading.{Heading as FoundHeading}

-- of a heading that is there
abbrev pub words_in : Scope → ℕ → Entry → Head → List ℕ
words_in scope i e head = title_words (bytes_in e.text head.title)

-- the words of the title of the heading at a place of a file; none where it isn't there
abbrev pub words_at : List Scope → ℕ → ℕ → List ℕ
words_at scopes file heading = by_place [] words_in scopes file heading

-- what the planning line says of the entry at a place of a file, if it is there and has one
abbrev pub planning_at : List Scope → ℕ → ℕ → Option Planning
planning_at scopes file heading = option_and_then (λ (scope : Scope). option_and_then entry_planning (slice_get scope.entries heading)) (slice_get scopes file)

-- those of the heading at a place of a file
abbrev pub IsKept : List Scope → KeptHeading → Type 0
IsKept scopes kept = (kept.words.items ≡ words_at scopes kept.file kept.heading) × (kept.planning ≡ planning_at scopes kept.file kept.heading)

-- those that are kept are those of their headings
abbrev pub AreKept : List Scope → List KeptHeading → Type 0
AreKept scopes kept = All (IsKept scopes) kept

-- a heading stands at its place of its file
abbrev pub StandsIn : List Scope → FoundHeading → Type 0
StandsIn scopes heading = IsFoundIn scopes heading.file heading.place (Some heading)
