-- What is known of the tags of a file's headings before an expression is asked of them.
use Rattle.std.specs.Prelude.{◌≡◌, ◌≤◌, ◌++◌, ℕ, if◌then◌else◌, nat_le, Bool, List, [], ◌∷◌, Option, None, Some, is_some, true}
use Rattle.org_entry.specs.declared.entry.Entry.{Entry}
use Rattle.org_expression.specs.Grammar.{Expr, Item}
use Rattle.org_inherit.specs.Scope.{Scope}
use Rattle.org_inherit.specs.Tags.{all_tags, own_tags_at}
use Rattle.org_match.specs.TagMatches.{tag_matches, matches_with}
use Rattle.org_match.specs.Holds.{tag_items}
use Rattle.org_outline.specs.Levels.{levels}
use Rattle.org_outline.specs.Parents.{up_to_parent}
use Rattle.org_outline.specs.Places.{behind}
use Rattle.org_outline.specs.Tree.{level_at, parent}
use Rattle.org_agenda.specs.Lists.{Listing, Open, Named, Matching}
use Rattle.org_agenda.specs.declared.tag_matches.LevelMatches.{LevelMatches}

-- the last matches of a heading that stands among the first so many entries, or of the file; others where there are none
abbrev pub last_up_to : List LevelMatches → ℕ → List Bool → List Bool
last_up_to [] n others = others
last_up_to (l ∷ ls) n others = last_up_to ls n (if nat_le (behind l.heading) n then l.list else others)

-- the last matches; others where there are none
abbrev pub innermost_matches : List LevelMatches → List Bool → List Bool
innermost_matches [] others = others
innermost_matches (l ∷ ls) others = innermost_matches ls l.list

-- matches with those left out whose levels are closed by an entry with so many up to its parent: what is found up to these
-- is found as before, and the innermost that are left are of one of these
pub record IsClosed (old new : List LevelMatches) (n : ℕ) : Type 0 where
  pub below : (m : ℕ) → m ≤ n → last_up_to new m [] ≡ last_up_to old m []
  pub last : (m : ℕ) → n ≤ m → last_up_to new m [] ≡ innermost_matches new []

-- matches, and after them those of the entry at a place, with these own tags, below the innermost
abbrev pub with_entry : List LevelMatches → ℕ → List (List ℕ) → List Item → List LevelMatches
with_entry known i [] items = known
with_entry known i (t ∷ ts) items = known ++ record { heading = Some i; list = matches_with (innermost_matches known []) (t ∷ ts) items } ∷ []

-- the same of the entry at a place, of which an expression is asked
abbrev pub with_entry_at : List LevelMatches → List Entry → ℕ → Expr → List LevelMatches
with_entry_at known es i expr = with_entry known i (own_tags_at es i) (tag_items expr)

-- the entry at a place is a heading
abbrev pub IsHeadingAt : List Entry → ℕ → Type 0
IsHeadingAt es i = is_some (level_at (levels es) i) ≡ true

-- these are an expression's matches on all tags of the entry at a place
abbrev pub AreTagMatches : Expr → Scope → ℕ → List Bool → Type 0
AreTagMatches expr scope i list = list ≡ tag_matches (all_tags scope i) (tag_items expr)

-- the tags that an entry inherits: those of its parent, or of the file where it has none
abbrev pub tags_above : Scope → Option ℕ → List (List ℕ)
tags_above scope None = scope.settings.file_tags
tags_above scope (Some p) = all_tags scope p

-- an expression's matches on the tags above each entry from a place on whose parent, if it has one, stands before that place
abbrev pub AreTagMatchesAbove : Expr → Scope → ℕ → List LevelMatches → Type 0
AreTagMatchesAbove expr scope i known = (k : ℕ) → i ≤ k → up_to_parent (levels scope.entries) k ≤ i →
    last_up_to known (up_to_parent (levels scope.entries) k) [] ≡ tag_matches (tags_above scope (parent (levels scope.entries) k)) (tag_items expr)

-- what a list has to know of an entry's tags
abbrev pub IsKnown : Listing → Scope → ℕ → List Bool → Type 0
IsKnown Open scope i list = Unit {0}
IsKnown (Named words) scope i list = Unit {0}
IsKnown (Matching expr moment) scope i list = AreTagMatches expr scope i list

-- the same of what stands above the entries from a place on
abbrev pub AreKnown : Listing → Scope → ℕ → List LevelMatches → Type 0
AreKnown Open scope i known = Unit {0}
AreKnown (Named words) scope i known = Unit {0}
AreKnown (Matching expr moment) scope i known = AreTagMatchesAbove expr scope i known
