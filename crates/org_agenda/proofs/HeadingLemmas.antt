-- What is known of a heading is known of the entry at its place.
use Rattle.std.proofs.Common.{◌≡◌, ◌∙◌, ◌+◌, ℕ, List, sym, subst}
use Rattle.std.specs.Prelude.{Option, Some}
use Rattle.org_entry.specs.Entry.{heading_line}
use Rattle.org_entry.specs.declared.entry.Entry.{Entry}
use Rattle.org_head.specs.Head.{head_of}
use Rattle.org_head.specs.declared.head.Head.{Head}
use Rattle.org_inherit.specs.Scope.{Scope}
use Rattle.org_agenda.specs.Facts.{AreKnownBehind, HasOwnHead, IsAtPlace}
use Rattle.org_agenda.specs.Headings.{HaveHeads}
use Rattle.org_agenda.specs.Lists.{Listing}
use Rattle.org_agenda.specs.TagMatches.{AreKnown}
use Rattle.org_agenda.specs.declared.facts.HeadingFacts.{HeadingFacts}
use Rattle.org_agenda.specs.declared.tag_matches.LevelMatches.{LevelMatches}

pub said : {X : Type 0} (f : Scope → ℕ → ℕ → Entry → Option Head → X) (scope : Scope) (file i : ℕ) (facts : HeadingFacts) → IsAtPlace scope file i facts.heading →
    f facts.heading.inherit.now facts.heading.file facts.heading.place facts.heading.entry.now (Some facts.heading.head.now) ≡ f scope file i facts.heading.entry.now facts.heading.entry.now.head
said f scope file i facts at = λ j. f (at.inherit j) (at.file j) (at.place j) facts.heading.entry.now (sym at.head j)

pub own_head : (scope : Scope) (file i : ℕ) (facts : HeadingFacts) → IsAtPlace scope file i facts.heading → HaveHeads scope.settings scope.entries → HasOwnHead facts
own_head scope file i facts at heads =
    let own : facts.heading.head.now ≡ head_of scope.settings (heading_line facts.heading.entry.now) = rw at.head at (heads i facts.heading.entry.now at.entry) in
    own ∙ (λ j. head_of (sym at.inherit j).settings (heading_line facts.heading.entry.now))

pub known_behind : (l : Listing) (scope : Scope) (file i : ℕ) (facts : HeadingFacts) (known : List LevelMatches) → IsAtPlace scope file i facts.heading → AreKnownBehind l facts known → AreKnown l scope (i + 1) known
known_behind l scope file i facts known at is = subst (λ (k : ℕ). AreKnown l scope (k + 1) known) at.place (subst (λ (s : Scope). AreKnown l s (facts.heading.place + 1) known) at.inherit is)
