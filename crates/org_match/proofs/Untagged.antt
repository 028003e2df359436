-- The matches of items that ask of no tag are the same whatever the tags are.
use Rattle.std.proofs.Common.{◌≡◌, ◌∙◌, ℕ, Bool, true, false, ◌||◌, List, [], ◌∷◌, refl, ap, ap₂, sym}
use Rattle.std.specs.List.{list_any}
use Rattle.org_expression.specs.Grammar.{Term, Tag, Found, Compare, Item, item}
use Rattle.org_match.specs.TagMatches.{ask_tags, asks_tags, either, item_asks_tags, meets, tag_matches, term_meets}

or_left : (a b : Bool) → (a || b) ≡ false → a ≡ false
or_left true b e = e
or_left false b e = refl

or_right : (a b : Bool) → (a || b) ≡ false → b ≡ false
or_right true b e = absurd cc
or_right false b e = e

none_met : (tags : List (List ℕ)) (term : Term) → asks_tags term ≡ false → list_any (term_meets term) tags ≡ false
none_met [] term none = refl
none_met (t ∷ ts) (Tag name) none = absurd cc
none_met (t ∷ ts) (Found pattern) none = absurd cc
none_met (t ∷ ts) (Compare name op v) none = none_met ts (Compare name op v) none

-- no tag is what an item asks for that asks of none
pub unmet : (tags : List (List ℕ)) (i : Item) → item_asks_tags i ≡ false → list_any (meets i) tags ≡ false
unmet tags (item link sign term) none = none_met tags term none

same_one : (s t : List (List ℕ)) (i : Item) → item_asks_tags i ≡ false → list_any (meets i) s ≡ list_any (meets i) t
same_one s t (item link sign term) none = none_met s term none ∙ sym (none_met t term none)

same_all : (s t : List (List ℕ)) (is : List Item) → ask_tags is ≡ false → tag_matches s is ≡ tag_matches t is
same_all s t [] none = refl
same_all s t (i ∷ is) none = ap₂ (λ v vs. v ∷ vs) (same_one s t i (or_left (item_asks_tags i) (ask_tags is) none)) (same_all s t is (or_right (item_asks_tags i) (ask_tags is) none))

pub either_none : (vs : List Bool) → either [] vs ≡ vs
either_none [] = refl
either_none (v ∷ vs) = ap (λ ws. v ∷ ws) (either_none vs)

-- the tags need be right only where they are asked for
pub matches_alike : (s t : List (List ℕ)) (asked : Bool) (is : List Item) → asked ≡ ask_tags is → (asked ≡ true → s ≡ t) → tag_matches s is ≡ tag_matches t is
matches_alike s t true is so same = ap (λ tags. tag_matches tags is) (same refl)
matches_alike s t false is so same = same_all s t is (sym so)
