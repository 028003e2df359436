use Rattle.std.proofs.Common.{◌≡◌, ◌∙◌, ◌+◌, ℕ, [], List, ap, subst, sym}
use Rattle.std.proofs.lemmas.Result.{on_ok_weaker}
use Rattle.org_entry.specs.declared.entry.Entry.{Entry}
use Rattle.org_outline.specs.Levels.{levels}
use Rattle.org_outline.specs.Parents.{up_to_parent}
use Rattle.org_agenda.proofs.LevelLemmas.{tagged_on, tagged_right, untagged_on, untagged_right}
use Rattle.org_agenda.specs.TagMatches.{AreTagMatches, AreTagMatchesAbove, innermost_matches, IsClosed, with_entry_at}
use Rattle.org_agenda.specs.declared.tag_matches.LevelMatches.{LevelMatches}
use Rattle.org_agenda.proofs.tag_matches.TagMatches.enter.Goals as goal

-- what is closed by a place is closed by it in the file's entries
shut : (old closed : List LevelMatches) (es fs : List Entry) (place up_to : ℕ) → IsClosed old closed up_to → up_to ≡ up_to_parent (levels es) place → es ≡ fs → IsClosed old closed (up_to_parent (levels fs) place)
shut old closed es fs place up_to is to same = subst (λ (n : ℕ). IsClosed old closed n) (to ∙ ap (λ (x : List Entry). up_to_parent (levels x) place) same) is

pub returns-then-not-asks_tags-clause-ok : goal.returns-then-not-asks_tags-clause-ok
returns-then-not-asks_tags-clause-ok c =
    untagged_on c.args.matcher.now c.args.facts.now.heading.inherit.now c.args.facts.now.heading.place c.args.self.now c.close.new.self c.requires.heading c.requires.known
    (shut _ _ _ _ _ _ c.close.ensures c.up_to_parent-up_to.ensures.value c.outline-outline.ensures.value) c.if-not-asks_tags.ensures.value

pub returns-then-not-asks_tags-clause-own : goal.returns-then-not-asks_tags-clause-own
returns-then-not-asks_tags-clause-own c =
    untagged_right c.args.matcher.now c.args.facts.now.heading.inherit.now c.args.facts.now.heading.place c.args.self.now c.close.new.self c.requires.known
    (shut _ _ _ _ _ _ c.close.ensures c.up_to_parent-up_to.ensures.value c.outline-outline.ensures.value) c.if-not-asks_tags.ensures.value

pub returns-clause-ok : goal.returns-clause-ok
returns-clause-ok c =
    let expr = c.args.matcher.now in
    let scope = c.args.facts.now.heading.inherit.now in
    let place = c.args.facts.now.heading.place in
    let closed = shut _ _ _ _ _ _ c.close.ensures c.up_to_parent-up_to.ensures.value c.outline-outline.ensures.value in
    on_ok_weaker c.add.result
    (λ (is : c.add.new.self ≡ with_entry_at c.close.new.self c.outline-outline.result.now place expr).
    subst (λ (x : List LevelMatches). AreTagMatchesAbove expr scope (place + 1) x)
    (sym (is ∙ ap (λ (es : List Entry). with_entry_at c.close.new.self es place expr) c.outline-outline.ensures.value))
    (tagged_on expr scope place c.args.self.now c.close.new.self c.requires.heading c.requires.known closed))
    c.add.ensures.ok

pub returns-clause-own : goal.returns-clause-own
returns-clause-own c =
    let expr = c.args.matcher.now in
    let scope = c.args.facts.now.heading.inherit.now in
    let place = c.args.facts.now.heading.place in
    let closed = shut _ _ _ _ _ _ c.close.ensures c.up_to_parent-up_to.ensures.value c.outline-outline.ensures.value in
    on_ok_weaker c.add.result
    (λ (is : c.add.new.self ≡ with_entry_at c.close.new.self c.outline-outline.result.now place expr).
    subst (λ (x : List LevelMatches). AreTagMatches expr scope place (innermost_matches x []))
    (sym (is ∙ ap (λ (es : List Entry). with_entry_at c.close.new.self es place expr) c.outline-outline.ensures.value))
    (tagged_right expr scope place c.args.self.now c.close.new.self c.requires.known closed))
    c.add.ensures.ok
