-- Verdicts of the levels that are open.
use Rattle.std.proofs.Common.{◌≡◌, ◌∙◌, ℕ, zero, suc, ◌+◌, ◌-◌, ◌<◌, ◌≤◌, Bool, true, false, Option, Some, None, List, [], ◌∷◌, ◌++◌, length, take, get_or, is_some, refl, sym, ap, ◌⊎◌, inl, inr, arith}
use Rattle.std.specs.Prelude.{if◌then◌else◌, nat_le, slice_get}
use Rattle.std.specs.Option.{option_map}
use Rattle.std.proofs.lemmas.Bool.{le-leb, leb-true, lt-ltb, ltb-false, ltb-true}
use Rattle.std.proofs.lemmas.List.{take_more}
use Rattle.org_entry.specs.declared.entry.Entry.{Entry}
use Rattle.org_expression.specs.Grammar.{Expr}
use Rattle.org_head.specs.declared.head.Head.{Head}
use Rattle.org_inherit.specs.Scope.{Scope}
use Rattle.org_inherit.specs.Tags.{all_tags, own_tags_at}
use Rattle.org_match.specs.Holds.{tag_items}
use Rattle.org_match.specs.TagMatches.{ask_tags, either, tag_matches}
use Rattle.org_match.proofs.Untagged.{matches_alike}
use Rattle.org_outline.proofs.Parents.{behind_parent, parent_is_nearest}
use Rattle.org_outline.specs.Levels.{level_of, levels}
use Rattle.org_outline.specs.Parents.{up_to_parent}
use Rattle.org_outline.specs.Places.{behind}
use Rattle.org_outline.specs.Tree.{is_smaller, level_at, parent}
use Rattle.org_agenda.proofs.TagLemmas.{none_own, matches_step}
use Rattle.org_agenda.specs.Lists.{Listing, Open, Named, Matching}
use Rattle.org_agenda.specs.TagMatches.{AreKnown, AreTagMatches, AreTagMatchesAbove, innermost_matches, IsClosed, IsHeadingAt, last_up_to, tags_above, with_entry}
use Rattle.org_agenda.specs.declared.tag_matches.LevelMatches.{LevelMatches}

-- the last one is the innermost
pub innermost_last : (ls : List LevelMatches) (l : LevelMatches) (others : List Bool) (k : ℕ) → k + 1 ≡ length ls → slice_get ls k ≡ Some l → innermost_matches ls others ≡ l.list
innermost_last [] l others k is there = absurd (omega arith)
innermost_last (m ∷ []) l others zero is there = let same : m ≡ l = cc in ap (λ (x : LevelMatches). x.list) same
innermost_last (m ∷ []) l others (suc k) is there = absurd (omega arith)
innermost_last (m ∷ n ∷ ls) l others zero is there = absurd (omega arith)
innermost_last (m ∷ n ∷ ls) l others (suc k) is there = innermost_last (n ∷ ls) l m.list k (omega arith) there

-- one level more
last_more : (ls : List LevelMatches) (l : LevelMatches) (n : ℕ) (others : List Bool) → last_up_to (ls ++ l ∷ []) n others ≡ (if nat_le (behind l.heading) n then l.list else last_up_to ls n others)
last_more [] l n others = refl
last_more (m ∷ ls) l n others = last_more ls l n (if nat_le (behind m.heading) n then m.list else others)

innermost_more : (ls : List LevelMatches) (l : LevelMatches) (others : List Bool) → innermost_matches (ls ++ l ∷ []) others ≡ l.list
innermost_more [] l others = refl
innermost_more (m ∷ ls) l others = innermost_more ls l m.list

not_le : (a b : ℕ) → b < a → nat_le a b ≡ false
not_le a b lt = by (nat_le a b) refl
  where
    by : (t : Bool) → nat_le a b ≡ t → t ≡ false
    by true e = absurd (omega (arith, leb-true a b e))
    by false e = refl

last_over : (ls : List LevelMatches) (l : LevelMatches) (n : ℕ) → n < behind l.heading → last_up_to (ls ++ l ∷ []) n [] ≡ last_up_to ls n []
last_over ls l n lt = last_more ls l n [] ∙ rw (not_le (behind l.heading) n lt) refl

last_within : (ls : List LevelMatches) (l : LevelMatches) (n : ℕ) → behind l.heading ≤ n → last_up_to (ls ++ l ∷ []) n [] ≡ l.list
last_within ls l n le = last_more ls l n [] ∙ rw (le-leb (behind l.heading) n le) refl

-- the first so many are the first but one, and the last of them
pub taken : (ls : List LevelMatches) (k : ℕ) (l : LevelMatches) → 0 < k → k ≤ length ls → l ≡ get_or ls (k - 1) l → take k ls ≡ take (k - 1) ls ++ l ∷ []
taken ls k l some le is =
    let e : k ≡ (k - 1) + 1 = omega arith in
    ap (λ n. take n ls) e ∙ take_more ls (k - 1) l (omega arith) ∙ ap (λ x. take (k - 1) ls ++ x ∷ []) (sym is)

-- a level that is closed says nothing of those below
pub one_closed : (ls : List LevelMatches) (k : ℕ) (l : LevelMatches) (n m : ℕ) → 0 < k → k ≤ length ls → l ≡ get_or ls (k - 1) l → n < behind l.heading → m ≤ n → last_up_to (take (k - 1) ls) m [] ≡ last_up_to (take k ls) m []
one_closed ls k l n m some le is over under = sym (ap (λ x. last_up_to x m []) (taken ls k l some le is) ∙ last_over (take (k - 1) ls) l m (omega arith))

-- all are closed that stand after a level that isn't
pub closed_at : (ls : List LevelMatches) (k : ℕ) (l : LevelMatches) (n : ℕ) → 0 < k → k ≤ length ls → l ≡ get_or ls (k - 1) l → behind l.heading ≤ n →
    ((m : ℕ) → m ≤ n → last_up_to (take k ls) m [] ≡ last_up_to ls m []) → IsClosed ls (take k ls) n
closed_at ls k l n some le is under same = record {
  below = same;
  last = λ m more.
      ap (λ x. last_up_to x m []) (taken ls k l some le is) ∙ last_within (take (k - 1) ls) l m (omega arith)
      ∙ sym (ap (λ x. innermost_matches x []) (taken ls k l some le is) ∙ innermost_more (take (k - 1) ls) l []);
}

-- what is smaller than a heading is smaller than one before it that isn't
between : (x y z : Option ℕ) → is_some y ≡ true → is_smaller x z ≡ true → is_smaller y z ≡ false → is_smaller x y ≡ true
between None y z s h g = absurd cc
between (Some a) y None s h g = absurd cc
between (Some a) None (Some m) s h g = absurd cc
between (Some a) (Some b) (Some m) s h g = lt-ltb a b (omega (arith, ltb-true a m h, ltb-false b m g))

module _ (ls : List (Option ℕ)) (i k : ℕ) (later : i < k) (heading : is_some (level_at ls i) ≡ true) where
  smaller_too : (p : ℕ) → parent ls k ≡ Some p → p < i → is_smaller (level_at ls p) (level_at ls i) ≡ true
  smaller_too p e before =
      let near = ((parent_is_nearest ls k).0 p).0 e in
      between (level_at ls p) (level_at ls i) (level_at ls k) heading near.smaller (near.nearest i before later)

  nest_by : (p q : Option ℕ) → parent ls k ≡ p → parent ls i ≡ q → behind p ≤ i → behind p ≤ behind q
  nest_by None q e f before = omega arith
  nest_by (Some p) None e f before =
      let yes' = smaller_too p e (omega arith) in
      let no' : is_smaller (level_at ls p) (level_at ls i) ≡ false = (parent_is_nearest ls i).1.0 f p (omega arith) in
      absurd cc
  nest_by (Some p) (Some q) e f before = elim (cases p q) [
    | inl le ↦ omega arith
    | inr lt ↦
        let yes' = smaller_too p e (omega arith) in
        let near = ((parent_is_nearest ls i).0 q).0 f in
        let no' : is_smaller (level_at ls p) (level_at ls i) ≡ false = near.nearest p lt (omega arith) in
        absurd cc
  ]
    where
      cases : (a b : ℕ) → (a ≤ b) ⊎ (b < a)
      cases a b = grind arith

  -- the parent of an entry, if it stands before an earlier heading, stands above that heading too
  parents_nest : up_to_parent ls k ≤ i → up_to_parent ls k ≤ up_to_parent ls i
  parents_nest before = nest_by (parent ls k) (parent ls i) refl refl before

behind_is : (p : Option ℕ) (i : ℕ) → behind p ≡ i + 1 → p ≡ Some i
behind_is None i e = absurd (omega arith)
behind_is (Some p) i e = let same : p ≡ i = omega arith in ap Some same

at_or_behind : (a i : ℕ) → a ≤ i + 1 → (a ≤ i) ⊎ (a ≡ i + 1)
at_or_behind a i le = grind arith

-- the same up to an entry, and for it and what is below it the innermost
record IsEntered (closed new : List LevelMatches) (i : ℕ) : Type 0 where
  below : (m : ℕ) → m ≤ i → last_up_to new m [] ≡ last_up_to closed m []
  own : last_up_to new (i + 1) [] ≡ innermost_matches new []

module _ (expr : Expr) (scope : Scope) (i : ℕ) where
  -- the matches above an entry are the innermost once what it isn't below is closed
  above_is_innermost : (old closed : List LevelMatches) → AreTagMatchesAbove expr scope i old → IsClosed old closed (up_to_parent (levels scope.entries) i) →
      innermost_matches closed [] ≡ tag_matches (tags_above scope (parent (levels scope.entries) i)) (tag_items expr)
  above_is_innermost old closed above shut =
      let u = up_to_parent (levels scope.entries) i in
      sym (shut.last u (omega arith)) ∙ shut.below u (omega arith) ∙ above i (omega arith) (behind_parent (levels scope.entries) i)

  -- after a heading
  goes_on : (old closed new : List LevelMatches) → IsHeadingAt scope.entries i → AreTagMatchesAbove expr scope i old →
      IsClosed old closed (up_to_parent (levels scope.entries) i) → IsEntered closed new i → AreTagMatches expr scope i (innermost_matches new []) → AreTagMatchesAbove expr scope (i + 1) new
  goes_on old closed new heading above shut entered right = λ k from before.
      let ls = levels scope.entries in
      let u = up_to_parent ls k in
      elim (at_or_behind u i before) [
        | inl le ↦ entered.below u le ∙ shut.below u (parents_nest ls i k (omega arith) heading le) ∙ above k (omega arith) le
        | inr last ↦
            ap (λ n. last_up_to new n []) last ∙ entered.own ∙ right
            ∙ sym (ap (λ p. tag_matches (tags_above scope p) (tag_items expr)) (behind_is (parent ls k) i last))
      ]

  stays : (old closed : List LevelMatches) → IsClosed old closed (up_to_parent (levels scope.entries) i) → IsEntered closed closed i
  stays old closed shut =
      let le = behind_parent (levels scope.entries) i in
      record { below = λ m h. refl; own = shut.last (i + 1) (omega arith) }

  -- a heading of which the expression asks no tags
  pub untagged_right : (old closed : List LevelMatches) → AreTagMatchesAbove expr scope i old → IsClosed old closed (up_to_parent (levels scope.entries) i) →
      false ≡ ask_tags (tag_items expr) → AreTagMatches expr scope i (innermost_matches closed [])
  untagged_right old closed above shut none =
      above_is_innermost old closed above shut ∙ matches_alike _ _ false (tag_items expr) none (λ e. absurd cc)

  pub untagged_on : (old closed : List LevelMatches) → IsHeadingAt scope.entries i → AreTagMatchesAbove expr scope i old →
      IsClosed old closed (up_to_parent (levels scope.entries) i) → false ≡ ask_tags (tag_items expr) → AreTagMatchesAbove expr scope (i + 1) closed
  untagged_on old closed heading above shut none = goes_on old closed closed heading above shut (stays old closed shut) (untagged_right old closed above shut none)

  abbrev step : List (List ℕ) → Type 0
  step own = tag_matches (all_tags scope i) (tag_items expr) ≡ either (tag_matches (tags_above scope (parent (levels scope.entries) i)) (tag_items expr)) (tag_matches own (tag_items expr))

  right_by : (closed : List LevelMatches) (own : List (List ℕ)) → innermost_matches closed [] ≡ tag_matches (tags_above scope (parent (levels scope.entries) i)) (tag_items expr) → step own →
      AreTagMatches expr scope i (innermost_matches (with_entry closed i own (tag_items expr)) [])
  right_by closed [] inner by = inner ∙ sym (none_own _ (tag_items expr)) ∙ sym by
  right_by closed (t ∷ ts) inner by = innermost_more closed _ [] ∙ ap (λ vs. either vs (tag_matches (t ∷ ts) (tag_items expr))) inner ∙ sym by

  entered_by : (old closed : List LevelMatches) (own : List (List ℕ)) → IsClosed old closed (up_to_parent (levels scope.entries) i) → IsEntered closed (with_entry closed i own (tag_items expr)) i
  entered_by old closed [] shut = stays old closed shut
  entered_by old closed (t ∷ ts) shut = record {
    below = λ m le. last_over closed _ m (omega arith);
    own = last_within closed _ (i + 1) (omega arith) ∙ sym (innermost_more closed _ []);
  }

  -- a heading, by its own tags
  pub tagged_right : (old closed : List LevelMatches) → AreTagMatchesAbove expr scope i old → IsClosed old closed (up_to_parent (levels scope.entries) i) →
      AreTagMatches expr scope i (innermost_matches (with_entry closed i (own_tags_at scope.entries i) (tag_items expr)) [])
  tagged_right old closed above shut = right_by closed (own_tags_at scope.entries i) (above_is_innermost old closed above shut) (matches_step scope i (tag_items expr))

  pub tagged_on : (old closed : List LevelMatches) → IsHeadingAt scope.entries i → AreTagMatchesAbove expr scope i old → IsClosed old closed (up_to_parent (levels scope.entries) i) →
      AreTagMatchesAbove expr scope (i + 1) (with_entry closed i (own_tags_at scope.entries i) (tag_items expr))
  tagged_on old closed heading above shut =
      goes_on old closed (with_entry closed i (own_tags_at scope.entries i) (tag_items expr)) heading above shut
      (entered_by old closed (own_tags_at scope.entries i) shut) (tagged_right old closed above shut)

  -- after an entry that is no heading
  pub skipped : (known : List LevelMatches) → level_at (levels scope.entries) i ≡ None → AreTagMatchesAbove expr scope i known → AreTagMatchesAbove expr scope (i + 1) known
  skipped known none above = λ k from before.
      let ls = levels scope.entries in
      elim (at_or_behind (up_to_parent ls k) i before) [
        | inl le ↦ above k (omega arith) le
        | inr last ↦
            let near = ((parent_is_nearest ls k).0 i).0 (behind_is (parent ls k) i last) in
            let no' : is_smaller (level_at ls i) (level_at ls k) ≡ false = rw none refl in
            let yes' = near.smaller in
            absurd cc
      ]

-- before the first entry
pub file_alone : (expr : Expr) (scope : Scope) (known : List LevelMatches) (list : List Bool) → known ≡ record { heading = None; list = list } ∷ [] → list ≡ tag_matches scope.settings.file_tags (tag_items expr) →
    AreTagMatchesAbove expr scope 0 known
file_alone expr scope known list is right = λ k from before.
    let ls = levels scope.entries in
    let only : LevelMatches = record { heading = None; list = list } in
    ap (λ x. last_up_to x (up_to_parent ls k) []) is ∙ last_within [] only (up_to_parent ls k) (omega arith) ∙ right ∙ sym (ap (λ p. tag_matches (tags_above scope p) (tag_items expr)) (none (parent ls k) (omega arith)))
  where
    none : (p : Option ℕ) → behind p ≡ 0 → p ≡ None
    none None e = refl
    none (Some q) e = absurd (omega arith)

-- the level of the entry at a place
pub level_there : (es : List Entry) (i : ℕ) (e : Entry) → slice_get es i ≡ Some e → level_at (levels es) i ≡ level_of e
level_there [] i e there = absurd cc
level_there (x ∷ xs) zero e there = let same : x ≡ e = cc in ap level_of same
level_there (x ∷ xs) (suc i) e there = level_there xs i e there

-- an entry with a head is a heading
pub is_heading : (es : List Entry) (i : ℕ) (e : Entry) (head : Head) → slice_get es i ≡ Some e → e.head ≡ Some head → IsHeadingAt es i
is_heading es i e head there is = ap is_some (level_there es i e there ∙ ap (option_map (λ (h : Head). h.level)) is)

-- and one without is none
pub is_no_heading : (es : List Entry) (i : ℕ) (e : Entry) → slice_get es i ≡ Some e → e.head ≡ None → level_at (levels es) i ≡ None
is_no_heading es i e there is = level_there es i e there ∙ ap (option_map (λ (h : Head). h.level)) is

pub known_skipped : (listing : Listing) (scope : Scope) (i : ℕ) (known : List LevelMatches) → level_at (levels scope.entries) i ≡ None → AreKnown listing scope i known → AreKnown listing scope (i + 1) known
known_skipped Open scope i known none above = tt
known_skipped (Named words) scope i known none above = tt
known_skipped (Matching expr moment) scope i known none above = skipped expr scope i known none above
