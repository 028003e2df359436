-- What stands before a tree, or after an entry, has no say in what is inherited.
use Rattle.std.proofs.Common.{◌≡◌, ◌∙◌, ℕ, ◌+◌, ◌++◌, ◌<◌, All, Bool, ◌||◌, reverse, Option, List, [], ◌∷◌, length, map, get_or, refl, sym, ap, ap₂, arith}
use Rattle.std.specs.List.{list_any, flat_map}
use Rattle.std.specs.Option.{option_or}
use Rattle.std.proofs.lemmas.List.{get_or_append_left, get_or-append-add, length-map, map-append, map-id, reverse-append}
use Rattle.std.proofs.lemmas.List.Elements.{All-head, All-tail, All-cons}
use Rattle.std.proofs.lemmas.List.Concat.{flat_map-cons}
use Rattle.org_base.specs.Properties.{value_in}
use Rattle.org_entry.specs.declared.entry.Entry.{Entry}
use Rattle.org_inherit.specs.Hidden.{hides}
use Rattle.org_inherit.proofs.HiddenWords.{hides_at}
use Rattle.org_inherit.specs.Laws.{InheritSame, LaterSaysNothing, TreesInheritAlone}
use Rattle.org_inherit.specs.Tags.{own_tags, own_tags_at, lineage}
use Rattle.org_inherit.specs.Values.{first_of, own_value}
use Rattle.org_inherit.proofs.LineageLemmas.{chain_within, lineage_within}
use Rattle.org_outline.specs.Levels.{level_of, levels}
use Rattle.org_outline.specs.Tree.{ancestors}
use Rattle.org_outline.proofs.Trees.{trees_stand_alone, later_has_no_say}

-- tests, values and tags of places that are those of other places
any_same : (R : ℕ → Type 0) (p q : ℕ → Bool) (g : ℕ → ℕ) → ((j : ℕ) → R j → p (g j) ≡ q j) → (js : List ℕ) → All R js → list_any p (map g js) ≡ list_any q js
any_same R p q g h [] a = refl
any_same R p q g h (j ∷ js) a = ap₂ (λ x y. x || y) (h j (All-head R j js a)) (any_same R p q g h js (All-tail R j js a))

first_same : {X : Type 0} (R : ℕ → Type 0) (p q : ℕ → Option X) (g : ℕ → ℕ) → ((j : ℕ) → R j → p (g j) ≡ q j) → (js : List ℕ) → All R js → first_of p (map g js) ≡ first_of q js
first_same R p q g h [] a = refl
first_same R p q g h (j ∷ js) a = ap₂ (λ x y. option_or x y) (h j (All-head R j js a)) (first_same R p q g h js (All-tail R j js a))

flat_same : {X : Type 0} (R : ℕ → Type 0) (p q : ℕ → List X) (g : ℕ → ℕ) → ((j : ℕ) → R j → p (g j) ≡ q j) → (js : List ℕ) → All R js → flat_map p (map g js) ≡ flat_map q js
flat_same R p q g h [] a = refl
flat_same R p q g h (j ∷ js) a =
    flat_map-cons p (g j) (map g js)
    ∙ ap₂ (λ x y. x ++ y) (h j (All-head R j js a)) (flat_same R p q g h js (All-tail R j js a))
    ∙ sym (flat_map-cons q j js)

reverse-map : (g : ℕ → ℕ) (xs : List ℕ) → reverse (map g xs) ≡ map g (reverse xs)
reverse-map g [] = refl
reverse-map g (x ∷ xs) =
    reverse-append (g x ∷ []) (map g xs)
    ∙ ap (λ v. v ++ g x ∷ []) (reverse-map g xs)
    ∙ sym (map-append g (reverse xs) (x ∷ []))
    ∙ ap (map g) (sym (reverse-append (x ∷ []) xs))

-- the entries of one list stand at places of another
record StandAt (es fs : List Entry) (g : ℕ → ℕ) : Type 0 where
  hides_same : (j : ℕ) → j < length fs → hides_at es (g j) ≡ hides_at fs j
  tags_same : (j : ℕ) → j < length fs → own_tags_at es (g j) ≡ own_tags_at fs j
  values_same : (name : List ℕ) (j : ℕ) → j < length fs → own_value es name (g j) ≡ own_value fs name j

module _ (es fs : List Entry) (g : ℕ → ℕ) (s : StandAt es fs g) (k : ℕ) (h : k < length fs)
    (up : ancestors (levels es) (g k) ≡ map g (ancestors (levels fs) k)) where
  within : All (λ j. j < length fs) (k ∷ ancestors (levels fs) k)
  within = All-cons (λ j. j < length fs) k (ancestors (levels fs) k) h (chain_within (levels fs) k (length fs) k (omega arith))

  lineage_same : lineage es (g k) ≡ map g (lineage fs k)
  lineage_same =
      ap (λ v. reverse v ++ g k ∷ []) up
      ∙ ap (λ v. v ++ g k ∷ []) (reverse-map g (ancestors (levels fs) k))
      ∙ sym (map-append g (reverse (ancestors (levels fs) k)) (k ∷ []))

  inherit_same : InheritSame es fs (g k) k
  inherit_same = record {
    hidden = ap (λ v. list_any (hides_at es) (g k ∷ v)) up ∙ any_same (λ j. j < length fs) (hides_at es) (hides_at fs) g s.hides_same (k ∷ ancestors (levels fs) k) within;
    tags = ap (flat_map (own_tags_at es)) lineage_same ∙ flat_same (λ j. j < length fs) (own_tags_at es) (own_tags_at fs) g s.tags_same (lineage fs k) (lineage_within fs k h);
    values = λ name. ap (λ v. first_of (own_value es name) (g k ∷ v)) up ∙ first_same (λ j. j < length fs) (own_value es name) (own_value fs name) g (s.values_same name) (k ∷ ancestors (levels fs) k) within;
  }

-- what entries after others have
get_behind : {X : Type 0} (f : Entry → X) (xs ys : List Entry) (j : ℕ) (d : X) → get_or (map f (xs ++ ys)) (length xs + j) d ≡ get_or (map f ys) j d
get_behind f xs ys j d =
    ap (λ v. get_or v (length xs + j) d) (map-append f xs ys)
    ∙ ap (λ n. get_or (map f xs ++ map f ys) (n + j) d) (sym (length-map xs f))
    ∙ get_or-append-add (map f xs) (map f ys) j d

get_before : {X : Type 0} (f : Entry → X) (xs ys : List Entry) (j : ℕ) (d : X) → j < length xs → get_or (map f (xs ++ ys)) j d ≡ get_or (map f xs) j d
get_before f xs ys j d h =
    ap (λ v. get_or v j d) (map-append f xs ys)
    ∙ get_or_append_left (map f xs) (map f ys) d j (omega (arith, h, length-map xs f))

pub trees_inherit_alone : TreesInheritAlone
trees_inherit_alone xs ys k b h =
    let same : ancestors (levels (xs ++ ys)) (length xs + k) ≡ map (λ i. length xs + i) (ancestors (levels ys) k) =
    ap (λ v. ancestors v (length xs + k)) (map-append level_of xs ys)
    ∙ rw (← length-map xs level_of) (trees_stand_alone (levels xs) (levels ys) k b) in
    inherit_same (xs ++ ys) ys (λ i. length xs + i)
    record {
      hides_same = λ j l. get_behind hides xs ys j _;
      tags_same = λ j l. get_behind own_tags xs ys j _;
      values_same = λ name j l. get_behind (λ e. value_in e.details.drawer name) xs ys j _;
    } k h same

pub later_says_nothing : LaterSaysNothing
later_says_nothing xs ys k h =
    let same : ancestors (levels (xs ++ ys)) k ≡ map (λ i. i) (ancestors (levels xs) k) =
    ap (λ v. ancestors v k) (map-append level_of xs ys)
    ∙ later_has_no_say (levels xs) (levels ys) k (omega (arith, h, length-map xs level_of))
    ∙ sym (map-id (ancestors (levels xs) k)) in
    inherit_same (xs ++ ys) xs (λ i. i)
    record {
      hides_same = λ j l. get_before hides xs ys j _ l;
      tags_same = λ j l. get_before own_tags xs ys j _ l;
      values_same = λ name j l. get_before (λ e. value_in e.details.drawer name) xs ys j _ l;
    } k h same
