-- What is said of a heading that stands at its place of its file.
use Rattle.std.proofs.Common.{◌≡◌, ℕ, List, [], ap}
use Rattle.std.specs.Prelude.{None, Option, Some, slice_get}
use Rattle.std.specs.Option.{option_and_then}
use Rattle.org_base.specs.Spans.{bytes_in}
use Rattle.org_entry.specs.Planning.{entry_planning}
use Rattle.org_inherit.specs.Headings.{IsFoundUnder}
use Rattle.org_inherit.specs.Scope.{Scope}
use Rattle.org_inherit.specs.declared.headings.Heading.{Heading as FoundHeading}
use Rattle.org_client.specs.KeptHeadings.{StandsIn, planning_at, words_at, words_in}
use Rattle.org_client.specs.TitleWords.{title_words}
use Rattle.org_client.proofs.HeadingLemmas.{found_there}

pub words_there : (scopes : List Scope) (h : FoundHeading) → StandsIn scopes h → words_at scopes h.file h.place ≡ title_words (bytes_in h.entry.now.text h.head.now.title)
words_there scopes h there = found_there [] words_in scopes h.file h.place h there

planning_under : (file place : ℕ) (h : FoundHeading) (scope : Option Scope) → IsFoundUnder scope file place (Some h) →
    option_and_then (λ (s : Scope). option_and_then entry_planning (slice_get s.entries place)) scope ≡ entry_planning h.entry.now
planning_under file place h None there = absurd cc
planning_under file place h (Some scope) there = ap (option_and_then entry_planning) there.entry

pub planning_there : (scopes : List Scope) (h : FoundHeading) → StandsIn scopes h → planning_at scopes h.file h.place ≡ entry_planning h.entry.now
planning_there scopes h there = planning_under h.file h.place h (slice_get scopes h.file) there
